-- The merge that was settled last, and how its chains became the present ones.
use Rattle.std.proofs.Common.{◌≡◌, refl, sym, ap, ◌∙◌, arith, List, [], ◌++◌, ℕ, ◌+◌, ◌*◌, ◌<◌, ◌≤◌, Bool, ◌||◌, length, Contains}
use Rattle.kin_algebra.proofs.Tests.{or_assoc, or_swapped}
use Rattle.kin_motion.specs.declared.fact.Placed.{Placed}
use Rattle.kin_motion.specs.Deltas.{Change}
use Rattle.kin_motion.specs.Edits.{Edit, all_edited, dropped_by, put_by}
use Rattle.kin_motion.specs.Kinetics.{ListsFailing}
use Rattle.kin_motion.specs.Numbers.{is_in, IsOnce}
use Rattle.kin_motion.specs.Scene.{Scene, Holds}
use Rattle.kin_motion.specs.Sets.{AreDistinct}
use Rattle.kin_motion.proofs.Members.{is_in-append}
use Rattle.kin_overlay.specs.declared.sketch.Puts.{Puts}
use Rattle.kin_overlay.specs.declared.standing.Standing.{Standing}
use Rattle.kin_overlay.specs.Fingers.{AreLess, IsMerged}
use Rattle.kin_overlay.specs.Lists.{AreApart}
use Rattle.kin_overlay.specs.Remembered.{Remembered, facts_of, all_placed}
use Rattle.kin_overlay.specs.Repairing.{Past, IsPast, IsKnownPast, IsPaid}
use Rattle.kin_overlay.specs.Reports.{IsTold}
use Rattle.kin_overlay.specs.Sound.{IsWhole}
use Rattle.kin_overlay.proofs.PutLaws.{not-edited, edited-more}
use Rattle.kin_overlay.proofs.SoundLaws.{told-new}

-- a merge just made
pub whole-new : (s : Scene) (part : ℕ) (m : Remembered) (a b : List ℕ) → 0 < length a → 0 < length b → IsOnce a → IsOnce b → AreLess a b → AreDistinct (all_placed part (facts_of m)) → IsMerged s a b m → IsWhole part m [] [] [] [] [] a b
whole-new s part m a b a_some b_some a_once b_once less distinct merged = record {
  less = less;
  distinct = distinct;
  past = record { scene = s; a = a; b = b; drop_a = []; drop_b = [] };
  is_past = record {
    merged = merged;
    a_some = a_some;
    b_some = b_some;
    a_once = a_once;
    b_once = b_once;
    less = less;
    a_edited = not-edited a;
    b_edited = not-edited b;
    gone_is = λ x. refl;
  };
  a_dropped = refl;
  b_dropped = refl;
}

module _ (part : ℕ) (m : Remembered) (put_a put_b drop_a drop_b gone a b : List ℕ) (es : List Edit) (w : IsWhole part m put_a put_b drop_a drop_b gone a b) where
  -- the chain of A is edited
  pub whole-edited-a : AreLess (all_edited es a) b → IsWhole part m (put_a ++ put_by es) put_b (drop_a ++ dropped_by es a) drop_b (gone ++ dropped_by es a) (all_edited es a) b
  whole-edited-a less =
      let p = w.past in
      let is = w.is_past in
      let more = dropped_by es a in
      record {
        less = less;
        distinct = w.distinct;
        past = record p { drop_a = p.drop_a ++ more };
        is_past = record {
          merged = is.merged;
          a_some = is.a_some;
          b_some = is.b_some;
          a_once = is.a_once;
          b_once = is.b_once;
          less = is.less;
          a_edited = edited-more put_a p.drop_a p.a a es is.a_edited;
          b_edited = is.b_edited;
          gone_is = λ x.
              is_in-append x gone more ∙ ap (λ (t : Bool). t || is_in x more) (is.gone_is x ∙ or_swapped (is_in x p.drop_a) (is_in x p.drop_b))
              ∙ or_assoc (is_in x p.drop_b) (is_in x p.drop_a) (is_in x more) ∙ or_swapped (is_in x p.drop_b) (is_in x p.drop_a || is_in x more)
              ∙ ap (λ (t : Bool). t || is_in x p.drop_b) (sym (is_in-append x p.drop_a more));
        };
        a_dropped = ap (λ (l : List ℕ). l ++ more) w.a_dropped;
        b_dropped = w.b_dropped;
      }

  -- the chain of B is edited
  pub whole-edited-b : AreLess a (all_edited es b) → IsWhole part m put_a (put_b ++ put_by es) drop_a (drop_b ++ dropped_by es b) (gone ++ dropped_by es b) a (all_edited es b)
  whole-edited-b less =
      let p = w.past in
      let is = w.is_past in
      let more = dropped_by es b in
      record {
        less = less;
        distinct = w.distinct;
        past = record p { drop_b = p.drop_b ++ more };
        is_past = record {
          merged = is.merged;
          a_some = is.a_some;
          b_some = is.b_some;
          a_once = is.a_once;
          b_once = is.b_once;
          less = is.less;
          a_edited = is.a_edited;
          b_edited = edited-more put_b p.drop_b p.b b es is.b_edited;
          gone_is = λ x.
              is_in-append x gone more ∙ ap (λ (t : Bool). t || is_in x more) (is.gone_is x) ∙ or_assoc (is_in x p.drop_a) (is_in x p.drop_b) (is_in x more)
              ∙ ap (λ (t : Bool). is_in x p.drop_a || t) (sym (is_in-append x p.drop_b more));
        };
        a_dropped = w.a_dropped;
        b_dropped = ap (λ (l : List ℕ). l ++ more) w.b_dropped;
      }

-- what was cleared is empty
pub whole-cleared : (part : ℕ) (m : Remembered) (put_a put_b drop_a drop_b gone a b : List ℕ) → put_a ≡ [] → put_b ≡ [] → drop_a ≡ [] → drop_b ≡ [] → gone ≡ [] → IsWhole part m [] [] [] [] [] a b → IsWhole part m put_a put_b drop_a drop_b gone a b
whole-cleared part m put_a put_b drop_a drop_b gone a b pa pb da db g w = rw (pa, pb, da, db, g) w

-- what a repair is given came of the merge before
pub given-past : (p : Past) (m : Remembered) (put_a put_b gone a b put_a' put_b' gone' a' b' : List ℕ) → put_a' ≡ put_a → put_b' ≡ put_b → gone' ≡ gone → a' ≡ a → b' ≡ b → IsPast p m put_a put_b gone a b → IsPast p m put_a' put_b' gone' a' b'
given-past p m put_a put_b gone a b put_a' put_b' gone' a' b' pa pb g same other is = rw (pa, pb, g, same, other) is

-- what a repair is given is known of the merge before
pub known-past : (p : Past) (w : Standing) (puts : Puts) (put_a put_b gone a b a' b' : List ℕ) → puts.a.now ≡ put_a → puts.b.now ≡ put_b → w.gone.now ≡ gone → a' ≡ a → b' ≡ b
    → IsPast p w.list.now put_a put_b gone a b → AreApart put_a p.drop_a → AreApart put_b p.drop_b → IsKnownPast p w puts a' b'
known-past p w puts put_a put_b gone a b a' b' pa pb g same other is apart_a apart_b = record {
  past = rw (pa, pb, g, same, other) is;
  a_apart = rw (pa) apart_a;
  b_apart = rw (pb) apart_b;
}

-- a fact that is listed as failed doesn't hold
pub failed-fail : (s : Scene) (facts : List Placed) (spared : Placed → Bool) (failed : List Placed) → ListsFailing facts spared s failed → (f : Placed) → Contains failed f → Holds s f.fact → ⊥
failed-fail s facts spared failed listed f there = ((listed.each f).0 there).2

-- the reports of both lists pay for the signs
pub reports-pay : (part : ℕ) (old new : Remembered) (steps steps' : ℕ) (before after : Change) → IsTold part (facts_of new) (facts_of old) before.dropped after.dropped → IsTold part (facts_of old) (facts_of new) before.born after.born
    → IsPaid (facts_of old) (facts_of new) steps steps' → steps' + (5 * length before.born + length before.dropped) ≤ steps + (5 * length after.born + length after.dropped)
reports-pay part old new steps steps' before after dropped born paid =
    let d = told-new part (facts_of new) (facts_of old) paid.dropped before.dropped after.dropped dropped paid.are_dropped in
    let b = told-new part (facts_of old) (facts_of new) paid.born before.born after.born born paid.are_born in
    let c = paid.cost in
    omega (arith, b, c, d)
