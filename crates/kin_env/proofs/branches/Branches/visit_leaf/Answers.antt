use Rattle.std.proofs.Common.{◌≡◌, refl, sym, ap, ◌∙◌, subst, arith, ℕ, ◌-◌, ◌*◌, ◌^◌, ◌<◌, ◌≤◌, List, length, get_or, Bool, true, false, Bor}
use Rattle.std.specs.Prelude.{Option}
use Rattle.std.proofs.lemmas.List.{length-set, get_or_read}
use Rattle.kin_algebra.proofs.Places.{get-set_same, get-set_other}
use Rattle.kin_algebra.proofs.Results.{for_ok, at_ok}
use Rattle.kin_env.specs.declared.node.Node.{Node}
use Rattle.kin_env.specs.Joints.{Leads}
use Rattle.kin_env.specs.Nodes.{merge_from, passed_from, edits_from, failed_from, passed_at}
use Rattle.kin_env.specs.Walks.{slot_in, own_chain}
use Rattle.kin_env.proofs.Hearing.{read_there}
use Rattle.kin_env.proofs.branches.Branches.visit_leaf.Goals as goal
use Rattle.kin_env.proofs.branches.Branches.visit_leaf.Goals.{then-held, else-held}

-- the chain of a slot that is read at a leaf
slot_is : (slots : List Bool) (leaf len room : ℕ) (held : Bool) → len ≡ length slots → length slots ≡ room → room ≤ leaf → leaf < 2 * room → held ≡ get_or slots (leaf - len) held
    → (b : Bool) → held ≡ b → own_chain (leaf - len) b ≡ own_chain (leaf - room) (slot_in slots (leaf - room))
slot_is slots leaf len room held len_is room_is low high read b is =
    subst (λ n. own_chain (leaf - len) b ≡ own_chain (leaf - n) (slot_in slots (leaf - n))) (len_is ∙ room_is)
    (ap (own_chain (leaf - len)) (sym is ∙ get_or_read slots (leaf - len) held (omega (arith, len_is, room_is, low, high)) read false))

pub hand_on-requires : goal.hand_on-requires
hand_on-requires c =
    let inside : c.args.leaf < length c.args.self.now.nodes.items = omega (arith, c.requires.inside, c.requires.shape.nodes_room) in
    let there = read_there c.args.self.now.nodes.items c.args.leaf c.index_mut-node.result.now inside c.index_mut-node.ensures.value in
    record { none = sym (ap merge_from there) ∙ c.requires.none }

pub returns-clause-same : goal.returns-clause-same
returns-clause-same c = refl

pub returns-clause-room : goal.returns-clause-room
returns-clause-room c = length-set c.args.self.now.nodes.items c.args.leaf c.hand_on.new.self

pub returns-clause-others : goal.returns-clause-others
returns-clause-others c = λ u m. get-set_other c.args.self.now.nodes.items c.args.leaf u c.hand_on.new.self m

pub returns-clause-merge : goal.returns-clause-merge
returns-clause-merge c =
    let inside : c.args.leaf < length c.args.self.now.nodes.items = omega (arith, c.requires.inside, c.requires.shape.nodes_room) in
    ap merge_from (get-set_same c.args.self.now.nodes.items c.args.leaf c.hand_on.new.self inside) ∙ c.hand_on.ensures.merge

pub returns-clause-leads : goal.returns-clause-leads
returns-clause-leads c =
    let ns = c.args.self.now.nodes.items in
    let leaf = c.args.leaf in
    let new = c.hand_on.new.self in
    let r = c.hand_on.result in
    let inside : leaf < length ns = omega (arith, c.requires.inside, c.requires.shape.nodes_room) in
    let there = read_there ns leaf c.index_mut-node.result.now inside c.index_mut-node.ensures.value in
    for_ok r _ (λ v e.
    subst (λ (o : Option Node). Leads (edits_from o) (passed_at ns leaf) (passed_from o)) (sym (get-set_same ns leaf new inside))
    (subst (λ (o : Option Node). Leads new.edits.items (passed_from o) new.passed.items) (sym there) (at_ok r _ v e c.hand_on.ensures.leads)))

pub returns-clause-failed : goal.returns-clause-failed
returns-clause-failed c =
    let ns = c.args.self.now.nodes.items in
    let inside : c.args.leaf < length ns = omega (arith, c.requires.inside, c.requires.shape.nodes_room) in
    let there = read_there ns c.args.leaf c.index_mut-node.result.now inside c.index_mut-node.ensures.value in
    ap failed_from (get-set_same ns c.args.leaf c.hand_on.new.self inside) ∙ c.hand_on.ensures.failed ∙ sym (ap failed_from there)

pub returns-clause-passed : goal.returns-clause-passed
returns-clause-passed c =
    let ns = c.args.self.now.nodes.items in
    let r = c.hand_on.result in
    let inside : c.args.leaf < length ns = omega (arith, c.requires.inside, c.requires.shape.nodes_room) in
    let len_is : c.len.result ≡ length c.args.self.now.slots.items = omega (arith, c.len.ensures) in
    let held = slot_is c.args.self.now.slots.items c.args.leaf c.len.result (2 ^ c.args.self.now.size) c.index-held.result.now len_is c.requires.shape.slots_room c.requires.low c.requires.inside c.index-held.ensures in
    let own : c.if-held.hand_on.now ≡ own_chain (c.args.leaf - 2 ^ c.args.self.now.size) (slot_in c.args.self.now.slots.items (c.args.leaf - 2 ^ c.args.self.now.size)) =
    elim c.if-held.branch [ then-held w ↦ ap (λ (p : Bor (List ℕ)). p.now) w.hand_on-is ∙ held true w.if-held.true | else-held w ↦ ap (λ (p : Bor (List ℕ)). p.now) w.hand_on-is ∙ held false w.if-held.false ] in
    for_ok r _ (λ v e. ap passed_from (get-set_same ns c.args.leaf c.hand_on.new.self inside) ∙ at_ok r _ v e c.hand_on.ensures.passed ∙ own)
