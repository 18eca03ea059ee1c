use Rattle.std.proofs.Common.{◌≡◌, ℤ, true, false, List, cond, Some, None, refl, sym, ap, ◌∙◌, inl, inr}
use Rattle.std.proofs.lemmas.Option.{same_Some}
use Rattle.indexmap.specs.IndexMap.{get as look_up}
use Rattle.kin_cert.specs.declared.holder.Holder.{Holder}
use Rattle.kin_fail.specs.Rank.{is_rank}
use Rattle.kin_cert.specs.Keys.{key_of}
use Rattle.kin_cert.specs.Holders.{holder_of}
use Rattle.kin_cert.specs.Layout.{entry_at}
use Rattle.kin_cert.proofs.Keys.{some_none, not_true, left-after}
use Rattle.kin_cert.proofs.Rolls.{key-held, unshared-first, nowhere}
use Rattle.kin_cert.proofs.index.strike.Goals as goal
use Rattle.kin_cert.proofs.index.strike.Goals.{In-Some}

-- the holder of the key
known : (c : In-Some) → holder_of c.args.holders.now (key_of c.args.plan.now c.args.structure c.args.part c.args.form.now) ≡ Some c.in-Some.holder
known c = ap (holder_of c.args.holders.now) (sym c.key_of-key.ensures) ∙ sym c.in-Some.ensures.value

pub unreachable-requires : goal.unreachable-requires
unreachable-requires c =
    let k = key-held c.args.plan.now c.args.entries.now.slots (holder_of c.args.holders.now) c.args.others.now c.requires.roll c.args.structure c.args.part c.args.form.now c.requires.there in
    some_none k.0 (sym k.1 ∙ ap (holder_of c.args.holders.now) (sym c.key_of-key.ensures) ∙ sym c.find.ensures.value ∙ c.in_default.is)

pub leave-requires : goal.leave-requires
leave-requires c = record { holder = c.in-Some.holder; known = c.find.ensures.same c.key_of-key.result ∙ sym c.in-Some.ensures.value; unshared = not_true c.in-Some.holder.is_shared c.if-not-holder.true }

pub returns-then-not-holder : goal.returns-then-not-holder
returns-then-not-holder c =
    let holders = holder_of c.args.holders.now in
    let key = key_of c.args.plan.now c.args.structure c.args.part c.args.form.now in
    inl (
      unshared-first c.args.plan.now c.args.entries.now.slots holders c.args.others.now c.requires.roll c.args.structure c.args.part c.args.form.now c.requires.there c.in-Some.holder (known (goal.at.returns-then-not-holder c).In-Some) (not_true c.in-Some.holder.is_shared c.if-not-holder.true),
      left-after holders (holder_of c.find.new.self) (holder_of c.leave.new.self) key c.key_of-key.result c.find.ensures.same c.key_of-key.ensures c.leave.ensures,
      λ q. refl,
    )

pub returns-then-has_fact : goal.returns-then-has_fact
returns-then-has_fact c =
    let first = c.if-has_fact.ensures.0 refl in
    inl (
      record { known = record { holder = c.in-Some.holder; known = known (goal.at.returns-then-has_fact c).In-Some; id_is = refl }; entry = first.0; there = first.1; ranked = first.2 },
      inr c.find.ensures.same,
      λ q. refl,
    )

pub returns : goal.returns
returns c =
    inr (
      ap (look_up is_rank c.args.others.now) (sym c.rank.ensures) ∙ sym c.in-Some-swap_remove.ensures.value,
      c.find.ensures.same,
      λ q. c.swap_remove.ensures.updates.0 q ∙ ap (λ (r : List ℤ). cond (is_rank r q) None (look_up is_rank c.args.others.now q)) c.rank.ensures,
    )

pub unreachable-requires-in_default-swap_remove : goal.unreachable-requires-in_default-swap_remove
unreachable-requires-in_default-swap_remove c =
    let holders = holder_of c.args.holders.now in
    let at = known (goal.at.unreachable-requires-in_default-swap_remove c).In-Some in
    let (id, (e, there, ranked)) = c.requires.there in
    nowhere c.args.plan.now c.args.entries.now.slots holders c.args.others.now c.requires.roll c.args.structure c.args.part c.args.form.now
    (record {
      no_first = λ h e known there ranked.
          let same : h ≡ c.in-Some.holder = same_Some h c.in-Some.holder (sym known ∙ at) in
          let both : false ≡ true = c.if-has_fact.ensures.1 (e, ap (λ (x : Holder). entry_at c.args.entries.now.slots x.id) (sym same) ∙ there, ranked) in
          cc;
      no_other = λ h known shared. ap (look_up is_rank c.args.others.now) (sym c.rank.ensures) ∙ sym c.swap_remove.ensures.value ∙ c.in_default-swap_remove.is;
    }) id e there ranked
