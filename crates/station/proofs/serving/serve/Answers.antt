use Rattle.std.proofs.Common.{inl}
use Rattle.station.proofs.serving.serve.Goals as goal

pub returns : goal.returns
returns g c = inl (c.in_ok-request.request, c.in_ok-request.ensures.1, c.serve_request.ensures)
