-- What is asked for, as the Rust types hold it.
use Rattle.std.specs.Prelude.{map, option_map, string_bytes}
use Rattle.submit_words.specs.Words.{Asked, Invocation, Job, Pair, Terms, Token, by_word, by_file, help, version, job}
use Rattle.submit_words.specs.declared.job.Invocation as code
use Rattle.submit_words.specs.declared.job.Invocation.TheVariants as codes
use Rattle.submit_words.specs.declared.job.Job as code_job
use Rattle.submit_words.specs.declared.job.Pair as code_pair
use Rattle.submit_words.specs.declared.job.Token as code_token
use Rattle.submit_words.specs.declared.job.Token.TheVariants.{Word, File}
use Rattle.submit_words.specs.declared.words.Asked as code_asked
use Rattle.submit_words.specs.declared.words.Terms as code_terms

abbrev pub token_seen : code_token.Token → Token
token_seen (Word text) = by_word text.now
token_seen (File name) = by_file name.now

abbrev pub pair_seen : code_pair.Pair → Pair
pair_seen p = (p.name.now, p.text.now)

abbrev pub asked_seen : code_asked.Asked → Asked
asked_seen a = record {
  scheduler = a.scheduler.now;
  token = token_seen a.token;
  archive = a.archive.now;
  run = (a.executable.now, map string_bytes a.arguments.now);
}

abbrev pub terms_seen : code_terms.Terms → Terms
terms_seen t = record {
  variables = map pair_seen t.variables.items;
  outputs = map pair_seen t.outputs.items;
  tries = t.tries;
  seconds = t.seconds;
}

abbrev pub job_seen : code_job.Job → Job
job_seen j = record {
  scheduler = j.scheduler.now;
  token = token_seen j.token;
  archive = j.archive.now;
  cache = option_map (λ t. t.now) j.cache;
  executable = j.executable.now;
  arguments = map string_bytes j.arguments.now;
  cwd = j.cwd.now;
  variables = map pair_seen j.variables.items;
  input = option_map (λ t. t.now) j.input;
  outputs = map pair_seen j.outputs.items;
  tries = j.tries;
  seconds = j.seconds;
  verbose = j.verbose;
  json = j.json;
}

abbrev pub invocation_seen : code.Invocation → Invocation
invocation_seen codes.Help = help
invocation_seen codes.Version = version
invocation_seen (codes.Job j) = job (job_seen j)
