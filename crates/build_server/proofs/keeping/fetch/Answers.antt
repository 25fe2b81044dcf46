use Rattle.std.proofs.Common.{refl, sym, ◌∙◌, ap, Ok, Err}
use Rattle.dist_types.specs.declared.source.ReadError.TheVariants as read
use Rattle.build_server.proofs.keeping.fetch.Goals as goal

pub returns-in-Ok : goal.returns-in-Ok
returns-in-Ok g c = record {
  fetches = (
    Ok c.in-Ok.archive.items,
    (
      record {
        all = c.in-Ok.ensures.all;
        at_end = c.in-Ok.ensures.at_end;
        short = c.in-Ok.ensures.short;
        steady = c.in-Ok.ensures.steady;
      },
      rw c.deref.ensures.value at c.end_with.ensures,
    ),
  );
  apart = c.read_whole.ensures.apart;
}

pub returns-in-Err-Failed : goal.returns-in-Err-Failed
returns-in-Err-Failed g c = record {
  fetches = (
    Err read.Failed,
    (
      (
        c.read_whole.ensures.cause (c.in-Err-Failed.is ∙ ap Err c.in-Err-Failed.field-0-is),
        c.in-Err-Failed.ensures.front,
        refl,
      ),
      refl,
    ),
  );
  apart = c.read_whole.ensures.apart;
}

pub returns-in-Err-TooLong : goal.returns-in-Err-TooLong
returns-in-Err-TooLong g c = let is = c.in-Err-TooLong.is ∙ ap Err c.in-Err-TooLong.field-0-is in record {
  fetches = (
    Err read.TooLong,
    (
      (
        c.read_whole.ensures.uncounted (λ e. cc (sym is ∙ e)),
        c.read_whole.ensures.too_long is,
        c.read_whole.ensures.rest is,
        refl,
      ),
      refl,
    ),
  );
  apart = c.read_whole.ensures.apart;
}

pub returns : goal.returns
returns g c = let is = c.in-Err-Memory.is ∙ ap Err c.in-Err-Memory.field-0-is in record {
  fetches = (
    Err read.Memory,
    ((c.read_whole.ensures.uncounted (λ e. cc (sym is ∙ e)), c.in-Err-Memory.ensures.front, refl), refl),
  );
  apart = c.read_whole.ensures.apart;
}
