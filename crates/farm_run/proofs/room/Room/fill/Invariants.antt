use Rattle.std.proofs.Common.{◌≡◌, ◌≤◌, length, map, vec_len, vec_capacity}
use Rattle.build_server.specs.Builds.{builder_of}
use Rattle.farm_stations.specs.Post.{outside_of}
use Rattle.farm_run.specs.Stops.{folders_in, AreGiven}
use Rattle.farm_run.proofs.room.Room.fill.Given as goal

-- what is handed back of the stations so far
abbrev pub invariant-loop-station : goal.invariant-loop-station
invariant-loop-station g l = record {
  folders : map g.F.Folder.held l.folders.items ≡ folders_in (map outside_of l.yielded);
  builders : AreGiven (builder_of g.B.BuilderIncoming.built g.B.BuilderIncoming.refusals)
      g.B.BuilderIncoming.answers (map (λ st. st.hand) l.yielded) l.builders.items;
  size : vec_len l.folders ≡ length l.yielded;
  few : vec_len l.builders ≤ vec_len l.folders;
  folder_room : vec_capacity l.folders ≡ vec_capacity l.initial.folders;
  builder_room : vec_capacity l.builders ≡ vec_capacity l.initial.builders;
}
