use Rattle.std.proofs.Common.{Result, Ok, Err, OnOk}
use Rattle.mirror.proofs.mirror.Mirror.put.Goals as goal

-- what holds where a premise does is held of an Ok alone
swapped : {T E : Type 0} (A B : Type 0) (r : Result T E) → (A → OnOk r B) → OnOk r (A → B)
swapped A B (Ok x) f = f
swapped A B (Err e) f = tt

pub returns-clause-stores : goal.returns-clause-stores
returns-clause-stores g c = rw (← c.self.view_is) (record {
  admits = c.insert_package.ensures.admits;
  archives = c.insert_package.ensures.ok;
  content = c.insert_package.ensures.content;
  fails = c.insert_package.ensures.fails;
  step = swapped _ _ c.insert_package.result c.insert_package.ensures.in_step;
  steady = c.insert_package.ensures.steady;
  uncounted = c.insert_package.ensures.uncounted;
  stays = record {
    capacity = c.insert_package.ensures.at.1;
    path = c.insert_package.ensures.at.0;
    others = c.insert_package.ensures.others;
    later = c.insert_package.ensures.later;
    stands = c.insert_package.ensures.stands;
  };
})
