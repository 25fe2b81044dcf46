use Rattle.server_service.proofs.run_server.fn.serve_and_beat.scope+FnOnce.call_once.Goals as goal

-- src/run_server.rt:236:4
pub scope-requires : goal.scope-requires
scope-requires g c =
    let r = c.requires.1.1.1 in
    (r.1.0, (r.1.1, (r.1.2, (r.1.3, r.0))))
