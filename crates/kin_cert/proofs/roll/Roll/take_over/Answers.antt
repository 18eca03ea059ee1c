use Rattle.std.proofs.Common.{◌≡◌, ℕ, List, Option, Some, slice_set, refl, sym, ap, ◌∙◌, subst}
use Rattle.kin_motion.specs.declared.fact.Placed.{Placed}
use Rattle.kin_cert.specs.Entries.{Entry}
use Rattle.kin_fail.specs.Rank.{owned_rank}
use Rattle.kin_cert.specs.declared.bucket.Label.{Label}
use Rattle.kin_cert.specs.declared.key.Key.{Key}
use Rattle.kin_cert.specs.Keys.{key_at, owned_key}
use Rattle.kin_cert.specs.Holders.{holder_of}
use Rattle.kin_cert.specs.Layout.{entry_rank, held, fresh, IsThere, IsTakenOver}
use Rattle.kin_cert.specs.Rolls.{IsRoll}
use Rattle.kin_fail.proofs.Ranks.{rank_names}
use Rattle.kin_cert.proofs.Rolls.{same-index, follows-first}
use Rattle.kin_cert.proofs.Keys.{some_none}
use Rattle.kin_cert.proofs.Succession.{ranked_there, succession_roll, succeeds}
use Rattle.kin_cert.proofs.roll.Roll.take_over.Goals as goal
use Rattle.kin_cert.proofs.roll.Roll.take_over.Goals.{Else-not-have_one_key, In_ok-holder}

-- the new fact has the structure that the entry has
same_structure : (e : Entry) (s : ℕ) (old new : Placed) → entry_rank e ≡ owned_rank (held s old) → fresh (held e.owned.structure new) ≡ fresh (held s new)
same_structure e s old new ranked =
    let n = rank_names e.owned.structure e.owned.part e.owned.fact.form s old.part old.fact.form ranked in
    ap (λ (x : ℕ). fresh (held x new)) n.structure

-- the old fact is there
live : (c : Else-not-have_one_key) → IsThere c.self.inside.entries.slots (owned_rank (held c.args.structure c.args.old.now))
live c = subst (λ (s : List (Option Entry)). IsThere s (owned_rank (held c.args.structure c.args.old.now))) (sym c.self.view_is) c.requires.there

-- the holder of its key
known : (c : In_ok-holder) → holder_of c.self.inside.holders (owned_key c.self.inside.plan (held c.args.structure c.args.old.now)) ≡ Some c.in_ok-holder.holder
known c =
    ap (λ (l : Label). holder_of c.self.inside.holders (key_at c.self.inside.plan c.args.structure l)) (sym c.of-label.ensures)
    ∙ c.find_word-word.ensures.value c.in_ok-holder.holder (sym c.in_ok-holder.ensures)

-- the new fact has it, too
one : (c : In_ok-holder) → owned_key c.self.inside.plan (held c.args.structure c.args.new.now) ≡ owned_key c.self.inside.plan (held c.args.structure c.args.old.now)
one c =
    let key : Label → Key = λ l. key_at c.self.inside.plan c.args.structure l in
    ap key (sym c.of.ensures) ∙ c.if-not-have_one_key.ensures refl ∙ ap key c.of-label.ensures

pub unreachable-requires : goal.unreachable-requires
unreachable-requires c =
    let first = follows-first c.self.inside.plan c.self.inside.entries.slots (holder_of c.self.inside.holders) c.self.inside.others c.self.invariant (held c.args.structure c.args.old.now) (held c.args.structure c.args.new.now) c.in_ok-holder.holder
    (live (goal.at.unreachable-requires c).Else-not-have_one_key) (known (goal.at.unreachable-requires c).In_ok-holder) (c.if-not-may_follow.ensures refl) in
    some_none first.entry (sym first.there ∙ sym c.in_default.ensures.value)

pub invariant_of-self : goal.invariant_of-self
invariant_of-self c =
    same-index c.self.inside.plan c.self.inside.entries.slots (holder_of c.self.inside.holders) c.self.inside.others c.self.invariant (holder_of c.find_word-word.new.self) c.self.inside.others (c.find_word-word.ensures.same, λ q. refl)

pub invariant_of-self-then-not-may_follow : goal.invariant_of-self-then-not-may_follow
invariant_of-self-then-not-may_follow c =
    same-index c.self.inside.plan c.self.inside.entries.slots (holder_of c.self.inside.holders) c.self.inside.others c.self.invariant (holder_of c.find_word-word.new.self) c.self.inside.others (c.find_word-word.ensures.same, λ q. refl)

pub invariant_of-self-2 : goal.invariant_of-self-2
invariant_of-self-2 c =
    let holders = holder_of c.find_word-word.new.self in
    let old = held c.args.structure c.args.old.now in
    let new = held c.args.structure c.args.new.now in
    let holder = c.in_ok-holder.holder in
    let there = live (goal.at.invariant_of-self-2 c).Else-not-have_one_key in
    let shares = one (goal.at.invariant_of-self-2 c).In_ok-holder in
    let follows = c.if-not-may_follow.ensures refl in
    let holds : holders (owned_key c.self.inside.plan old) ≡ Some holder = c.find_word-word.ensures.same (owned_key c.self.inside.plan old) ∙ known (goal.at.invariant_of-self-2 c).In_ok-holder in
    let roll = same-index c.self.inside.plan c.self.inside.entries.slots (holder_of c.self.inside.holders) c.self.inside.others c.self.invariant holders c.self.inside.others (c.find_word-word.ensures.same, λ q. refl) in
    let ranked = ranked_there roll old new holder there holds shares follows c.in-Some.entry.now (sym c.in-Some.ensures.value) in
    let is : c.replace_with.new.self ≡ fresh new = c.replace_with.ensures ∙ same_structure c.in-Some.entry.now c.args.structure c.args.old.now c.args.new.now ranked in
    subst (λ (x : Entry). IsRoll c.self.inside.plan (slice_set c.self.inside.entries.slots holder.id (Some x)) holders c.self.inside.others) (sym is)
    (succession_roll roll old new holder there holds shares follows c.in-Some.entry.now (sym c.in-Some.ensures.value))

pub returns-clause-taken : goal.returns-clause-taken
returns-clause-taken c =
    let old = held c.args.structure c.args.old.now in
    let new = held c.args.structure c.args.new.now in
    let holder = c.in_ok-holder.holder in
    let entry = c.in-Some.entry.now in
    let there = live (goal.at.returns-clause-taken c).Else-not-have_one_key in
    let shares = one (goal.at.returns-clause-taken c).In_ok-holder in
    let follows = c.if-not-may_follow.ensures refl in
    let holds : holder_of c.self.inside.holders (owned_key c.self.inside.plan old) ≡ Some holder = known (goal.at.returns-clause-taken c).In_ok-holder in
    let ranked = ranked_there c.self.invariant old new holder there holds shares follows entry (sym c.in-Some.ensures.value) in
    let is : c.replace_with.new.self ≡ fresh new = c.replace_with.ensures ∙ same_structure entry c.args.structure c.args.old.now c.args.new.now ranked in
    subst (λ (s : List (Option Entry)). IsTakenOver s (owned_rank old) new (record { id = holder.id; is_queued = c.is_queued-is_queued.result }) (slice_set c.self.inside.entries.slots holder.id (Some c.replace_with.new.self))) c.self.view_is
    (subst (λ (x : Entry). IsTakenOver c.self.inside.entries.slots (owned_rank old) new (record { id = holder.id; is_queued = c.is_queued-is_queued.result }) (slice_set c.self.inside.entries.slots holder.id (Some x))) (sym is)
    (succeeds c.self.invariant old new holder there holds shares follows entry (sym c.in-Some.ensures.value) c.is_queued-is_queued.result c.is_queued-is_queued.ensures))
