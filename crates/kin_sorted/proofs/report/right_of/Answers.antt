use Rattle.std.proofs.Common.{◌≡◌, refl, sym, ap, ◌∙◌, arith, List, ℕ, suc, ◌+◌, ◌≤◌, length, Some, None, Option, Bool, true, false, add-one}
use Rattle.std.specs.Prelude.{slice_get}
use Rattle.std.proofs.lemmas.Option.{slice_get_past}
use Rattle.kin_algebra.specs.declared.sign.Sign.{Sign}
use Rattle.kin_sorted.specs.Links.{linked, link_for}
use Rattle.kin_motion.specs.Sets.{AreDistinct}
use Rattle.kin_motion.specs.Numbers.{is_in}
use Rattle.kin_sorted.proofs.RowLaws.{get_from_is_in}
use Rattle.kin_sorted.proofs.LinkLaws.{link_for-at, link_for-absent}
use Rattle.kin_sorted.proofs.report.right_of.Goals as goal

module _ (xs : List ℕ) (who : ℕ) (apart : AreDistinct xs) (signs : List Sign) where
  next_link : (p right : ℕ) → slice_get xs p ≡ Some who → slice_get xs (p + 1) ≡ Some right → linked (Some right) (slice_get signs who) ≡ link_for xs signs who
  next_link p right at next = sym (link_for-at xs signs p who apart at ∙ ap (λ (o : Option ℕ). linked o (slice_get signs who)) (ap (slice_get xs) (sym (add-one p)) ∙ next))

  last_link : (p : ℕ) → slice_get xs p ≡ Some who → length xs ≤ p + 1 → None ≡ link_for xs signs who
  last_link p at past = sym (link_for-at xs signs p who apart at ∙ ap (λ (o : Option ℕ). linked o (slice_get signs who)) (slice_get_past xs (suc p) (omega arith)))

  -- where no next one was found
  no_link : ((p : ℕ) → slice_get xs p ≡ Some who → length xs ≤ p + 1) → None ≡ link_for xs signs who
  no_link past = from (is_in who xs) refl
    where
      from : (b : Bool) → is_in who xs ≡ b → None ≡ link_for xs signs who
      from true e = let w = get_from_is_in xs who e in last_link w.0 w.1 (past w.0 w.1)
      from false e = sym (link_for-absent xs signs who e)

pub returns-in_err-place-clause-link : goal.returns-in_err-place-clause-link
returns-in_err-place-clause-link c = λ signs.
    ap (λ (o : Option ℕ). linked o (slice_get signs c.args.slot)) c.from_residual.ensures
    ∙ no_link c.args.row.now.items c.args.slot c.in_err-place.ensures.apart signs (c.in_err-place.ensures.none refl)

pub returns-clause-link : goal.returns-clause-link
returns-clause-link c = λ signs. next_link c.args.row.now.items c.args.slot c.in_ok-place.ensures.apart signs c.in_ok-place.field-0 c.at.result c.in_ok-place.ensures.some c.at.ensures.item
