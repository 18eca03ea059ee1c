use Rattle.kin_world.proofs.Vocabulary.{rules, ◌≡◌, length}
use Rattle.kin_world.proofs.MailLaws.{boxed_first}
use Rattle.kin_world.proofs.upkeep.Upkeep.repair_each.Goals as goal

pub repair_told-requires : goal.repair_told-requires
repair_told-requires g c =
    let count : c.len.result ≡ length c.args.self.now.structures.items = search rules in
    let out = c.in_ok-sort.ensures in
    record { repair = boxed_first c.requires.repair.1 c.requires.waiting c.sort.new.self (λ k within. out.told k (rw count within)); boxes = rw count at out.count }
