use Rattle.mirror_run.proofs.sites.did.Goals as goal

pub returns-in-Put : goal.returns-in-Put
returns-in-Put c = record { does = rw c.in-Put.is c.put.ensures.does }

pub returns-in-Get : goal.returns-in-Get
returns-in-Get c = record { does = rw c.in-Get.is c.get.ensures.does }

pub returns-in-Lose : goal.returns-in-Lose
returns-in-Lose c = record { does = rw c.in-Lose.is c.lose.ensures.does }

pub returns-in-Lie : goal.returns-in-Lie
returns-in-Lie c = record { does = rw c.in-Lie.is c.lie.ensures.does }
