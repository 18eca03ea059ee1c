use Rattle.std.proofs.Common.{◌≡◌, ℕ, ◌+◌, ◌<◌, List, get_or, Some, Bool, true, false, refl, sym, ap, ◌∙◌, arith, nat_eq}
use Rattle.std.specs.Prelude.{slice_get}
use Rattle.std.specs.List.{list_any}
use Rattle.std.proofs.lemmas.Option.{slice_get_within, get_or_from_slice_get}
use borrow.Author.Count.{below_more}
use Rattle.kin_motion.specs.Numbers.{is_in}
use Rattle.kin_overlay.proofs.ListLaws.{is_in-any}
use Rattle.kin_overlay.proofs.diff.strangers.Goals as goal

-- the number at the place is one of the others exactly where the search found it
found : (list others : List ℕ) (n k x : ℕ) (b r : Bool) → r ≡ b → r ≡ list_any (λ y. nat_eq y (get_or list n 0)) others → k ≡ n → slice_get list k ≡ Some x → is_in x others ≡ b
found list others n k x b r p q e at =
    let here : get_or list n 0 ≡ x = ap (λ m. get_or list m 0) (sym e) ∙ get_or_from_slice_get list k x 0 at in
    ap (λ z. is_in z others) (sym here) ∙ sym (q ∙ is_in-any (get_or list n 0) others) ∙ p

one_more : (list others : List ℕ) (n : ℕ) (r : Bool) → r ≡ false → r ≡ list_any (λ y. nat_eq y (get_or list n 0)) others
    → ((k x : ℕ) → k < n → slice_get list k ≡ Some x → is_in x others ≡ false) → (k x : ℕ) → k < n + 1 → slice_get list k ≡ Some x → is_in x others ≡ false
one_more list others n r p q before k x l at =
    below_more (λ i. (y : ℕ) → slice_get list i ≡ Some y → is_in y others ≡ false) n (λ i m y. before i y m) (λ y there. found list others n n y false r p q refl there) k l x at

pub loop-count-preserved : goal.loop-count-preserved
loop-count-preserved c = record {
  within = omega arith;
  strange = one_more c.args.list.now c.args.other.now c.loop-count.count c.contains.result c.if-not-contains.true c.contains.ensures.value c.loop-count.invariant.strange;
}

pub returns-else-not-contains-clause-next : goal.returns-else-not-contains-clause-next
returns-else-not-contains-clause-next c = λ x at.
    found c.args.list.now c.args.other.now c.loop-count.count c.loop-count.count x true c.contains.result c.if-not-contains.false c.contains.ensures.value (λ i. c.loop-count.count) at

pub returns-after-loop-count-clause-next : goal.returns-after-loop-count-clause-next
returns-after-loop-count-clause-next c = λ x at. absurd (let w = slice_get_within c.args.list.now c.loop-count.count x at in omega arith)
