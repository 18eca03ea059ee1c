use Rattle.std.proofs.Common.{◌≡◌, ◌∙◌, sym, ap, subst, ℕ, ◌/◌, ◌%◌, Option, Some, rules}
use Rattle.std.proofs.lemmas.Option.{same_Some}
use Rattle.kin_motion.specs.Octants.{Octant}
use Rattle.kin_wedge.specs.Seen.{octant_seen, rows_of}
use Rattle.kin_wedge.specs.Touched.{IsRenewed}
use Rattle.kin_wedge.proofs.Renewing.{renewed_within, within_slots, same_octant, set_as_it_is}
use Rattle.kin_wedge.proofs.renew.renew.Goals as goal

pub renewed-new-requires-clause-behind : goal.renewed-new-requires-clause-behind
renewed-new-requires-clause-behind c = λ q h. c.requires.ranked.behind (c.args.touch.slot % 8) (c.args.touch.slot / 8) q (octant_seen c.orders_of-around.result) c.orders_of-around.ensures.octant h

pub put-requires-clause-candidate : goal.put-requires-clause-candidate
put-requires-clause-candidate c = λ k e.
    within_slots (rows_of c.args.orders.now.lists.items) (octant_seen c.orders_of-around.result) (c.args.touch.slot / 8) _ k c.requires.members
    (renewed_within (rows_of c.args.orders.now.lists.items) (octant_seen c.orders_of-around.result) (c.args.touch.slot / 8) c.candidate-old.result c.args.touch.offer c.renewed-new.result k c.renewed-new.ensures (search rules) e)

pub returns-else-ne-clause-renewed : goal.returns-else-ne-clause-renewed
returns-else-ne-clause-renewed c = λ o old e f.
    let here = same_octant (c.args.touch.slot % 8) (octant_seen c.orders_of-around.result) o c.orders_of-around.ensures.octant e in
    let was : c.candidate-old.result ≡ old = same_Some _ _ (sym c.candidate-old.ensures.value ∙ f) in
    let same : c.candidate-old.result ≡ c.renewed-new.result = search rules in (
      c.renewed-new.result,
      set_as_it_is c.args.table.now c.args.touch.slot c.renewed-new.result (c.candidate-old.ensures.value ∙ ap (λ (x : Option ℕ). Some x) same),
      subst (λ (x : Octant). IsRenewed (rows_of c.args.orders.now.lists.items) x (c.args.touch.slot / 8) old c.args.touch.offer c.renewed-new.result) here
          (subst (λ (x : Option ℕ). IsRenewed (rows_of c.args.orders.now.lists.items) (octant_seen c.orders_of-around.result) (c.args.touch.slot / 8) x c.args.touch.offer c.renewed-new.result) was c.renewed-new.ensures),
    )

pub returns-else-ne-clause-written : goal.returns-else-ne-clause-written
returns-else-ne-clause-written c =
    let same : c.candidate-old.result ≡ c.renewed-new.result = search rules in
    (c.renewed-new.result, set_as_it_is c.args.table.now c.args.touch.slot c.renewed-new.result (c.candidate-old.ensures.value ∙ ap (λ (x : Option ℕ). Some x) same))
