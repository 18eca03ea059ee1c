use Rattle.std.proofs.Common.{◌≡◌, length, arith}
use Rattle.kin_check.proofs.Replying.{live_line}
use Rattle.kin_check.proofs.reply.live.Goals as goal

pub returns : goal.returns
returns g c =
    let room = c.in_ok-facts.facts.ok.0 in
    let count = c.len.ensures in
    let same : c.len.result ≡ length c.in_ok-facts.facts.items = omega (arith, room, count) in
    ((tt, tt), live_line c.args.state.now c.requires c.moment.result c.in_ok-facts.facts.items c.len.result c.moment.ensures c.in_ok-facts.ensures same)
