use Rattle.std.proofs.Common.{length}
use Rattle.http_routes.proofs.err_json.ErrJson.+new.Given as goal

abbrev pub decreases-new : goal.decreases-new
decreases-new l = length l.texts.now
