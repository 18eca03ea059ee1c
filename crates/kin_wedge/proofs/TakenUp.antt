-- Touched slots come to their candidates one after another.
use Rattle.std.proofs.Common.{◌≡◌, ◌≢◌, refl, sym, ap, ◌∙◌, subst, arith, List, [], ◌∷◌, ℕ, ◌+◌, ◌/◌, ◌%◌, ◌<◌, ◌≤◌, true, false, cond, nat_eq, length, set, drop, Some, Option, inl, inr, ◌⊎◌}
use Rattle.std.specs.Prelude.{slice_get}
use Rattle.std.proofs.lemmas.Bool.{cases_eq}
use Rattle.std.proofs.lemmas.Bool.Decides.{nat_tests}
use Rattle.std.proofs.lemmas.List.{drop_all}
use Rattle.kin_algebra.proofs.Places.{get-set_same, get-set_other}
use Rattle.kin_motion.specs.Octants.{Octant, octants}
use Rattle.kin_wedge.specs.declared.touch.Touch.{Touch}
use Rattle.kin_wedge.specs.Rows.{AreRows, AreRanked}
use Rattle.kin_wedge.specs.Touched.{offers_for, IsAwaited, IsRenewed, IsOnItsWay, IsAnswered}
use Rattle.kin_wedge.proofs.Awaited.{awaited_step, awaited_done}

offers_here : (slot : ℕ) (t : Touch) (ts : List Touch) → t.slot ≡ slot → offers_for slot (t ∷ ts) ≡ t.offer ∷ offers_for slot ts
offers_here slot t ts e = let b : nat_eq t.slot slot ≡ true = grind (arith, nat_tests, e) in ap (λ x. cond x (t.offer ∷ offers_for slot ts) (offers_for slot ts)) b

offers_there : (slot : ℕ) (t : Touch) (ts : List Touch) → t.slot ≢ slot → offers_for slot (t ∷ ts) ≡ offers_for slot ts
offers_there slot t ts n = let b : nat_eq t.slot slot ≡ false = grind (arith, nat_tests, n) in ap (λ x. cond x (t.offer ∷ offers_for slot ts) (offers_for slot ts)) b

-- so many touches are taken up
pub record AreTakenUp (rows : List (List ℕ)) (first now : List (Option ℕ)) (touches : List Touch) (i : ℕ) : Type 0 where
  pub count : length now ≡ length first
  pub awaited : (slot : ℕ) (o : Octant) → slice_get octants (slot % 8) ≡ Some o → IsOnItsWay rows o slot first (offers_for slot touches) → IsOnItsWay rows o slot now (offers_for slot (drop i touches))
  pub none_left : (slot : ℕ) → offers_for slot touches ≡ [] → offers_for slot (drop i touches) ≡ []
  pub kept : (slot : ℕ) → offers_for slot touches ≡ [] → slice_get now slot ≡ slice_get first slot

module _ (rows : List (List ℕ)) (are_rows : AreRows rows) (ranked : AreRanked rows) (first : List (Option ℕ)) (touches : List Touch) where
  pub taken_none : AreTakenUp rows first first touches 0
  taken_none = record { count = refl; awaited = λ slot o e h. h; none_left = λ slot h. h; kept = λ slot h. refl }

  pub taken_more : (now next : List (Option ℕ)) (i : ℕ) (t : Touch) → AreTakenUp rows first now touches i → drop i touches ≡ t ∷ drop (i + 1) touches → t.slot < length now → length next ≡ length now
      → ((o : Octant) (old : Option ℕ) → slice_get octants (t.slot % 8) ≡ Some o → slice_get now t.slot ≡ Some old → (new : Option ℕ) × (next ≡ set now t.slot new) × IsRenewed rows o (t.slot / 8) old t.offer new)
      → ((o : Option ℕ) × (next ≡ set now t.slot o)) → AreTakenUp rows first next touches (i + 1)
  taken_more now next i t a rest within same renewed written = record {
    count = same ∙ a.count;
    awaited = λ slot o e h. at slot o e (a.awaited slot o e h) (cases_eq t.slot slot);
    none_left = λ slot h. left slot h (cases_eq t.slot slot);
    kept = λ slot h. ap (λ (v : List (Option ℕ)). slice_get v slot) written.1 ∙ get-set_other now t.slot slot written.0 (λ s. away slot h (sym s)) ∙ a.kept slot h;
  }
    where
      -- a slot to which nothing was offered is another one
      away : (slot : ℕ) → offers_for slot touches ≡ [] → t.slot ≢ slot
      away slot h s = let e : t.offer ∷ offers_for slot (drop (i + 1) touches) ≡ [] = sym (offers_here slot t (drop (i + 1) touches) s) ∙ sym (ap (offers_for slot) rest) ∙ a.none_left slot h in cc

      left : (slot : ℕ) → offers_for slot touches ≡ [] → (t.slot ≡ slot) ⊎ (t.slot ≢ slot) → offers_for slot (drop (i + 1) touches) ≡ []
      left slot h (inl s) = absurd (away slot h s)
      left slot h (inr n) = sym (offers_there slot t (drop (i + 1) touches) n) ∙ sym (ap (offers_for slot) rest) ∙ a.none_left slot h

      here : (o : Octant) → slice_get octants (t.slot % 8) ≡ Some o → IsOnItsWay rows o t.slot now (offers_for t.slot (drop i touches)) → IsOnItsWay rows o t.slot next (offers_for t.slot (drop (i + 1) touches))
      here o e h =
          let r = renewed o h.candidate e h.held in
          record {
            candidate = r.0;
            held = ap (λ (v : List (Option ℕ)). slice_get v t.slot) r.1 ∙ get-set_same now t.slot r.0 within;
            awaited = awaited_step rows are_rows.apart o (t.slot / 8) (λ x y k m. ranked.ranked (t.slot % 8) (t.slot / 8) x y o e k m) h.candidate r.0 t.offer (offers_for t.slot (drop (i + 1) touches))
                (subst (IsAwaited rows o (t.slot / 8) h.candidate) (ap (offers_for t.slot) rest ∙ offers_here t.slot t (drop (i + 1) touches) refl) h.awaited) r.2;
          }

      at : (slot : ℕ) (o : Octant) → slice_get octants (slot % 8) ≡ Some o → IsOnItsWay rows o slot now (offers_for slot (drop i touches)) → (t.slot ≡ slot) ⊎ (t.slot ≢ slot) → IsOnItsWay rows o slot next (offers_for slot (drop (i + 1) touches))
      at slot o e h (inl s) =
          subst (λ (n : ℕ). IsOnItsWay rows o n next (offers_for n (drop (i + 1) touches))) s
          (here o (ap (λ (n : ℕ). slice_get octants (n % 8)) s ∙ e) (subst (λ (n : ℕ). IsOnItsWay rows o n now (offers_for n (drop i touches))) (sym s) h))
      at slot o e h (inr n) = record {
        candidate = h.candidate;
        held = ap (λ (v : List (Option ℕ)). slice_get v slot) written.1 ∙ get-set_other now t.slot slot written.0 (λ s. n (sym s)) ∙ h.held;
        awaited = subst (IsAwaited rows o (slot / 8) h.candidate) (ap (offers_for slot) rest ∙ offers_there slot t (drop (i + 1) touches) n) h.awaited;
      }

  pub taken_all : (now : List (Option ℕ)) (i : ℕ) → length touches ≤ i → AreTakenUp rows first now touches i → (slot : ℕ) (o : Octant) → slice_get octants (slot % 8) ≡ Some o → IsOnItsWay rows o slot first (offers_for slot touches) → IsAnswered rows o slot now
  taken_all now i l a slot o e h =
      let k = a.awaited slot o e h in
      record {
        candidate = k.candidate;
        held = k.held;
        first = awaited_done rows are_rows.apart o (slot / 8) (λ x y m n. ranked.ranked (slot % 8) (slot / 8) x y o e m n) k.candidate (subst (λ (ts : List Touch). IsAwaited rows o (slot / 8) k.candidate (offers_for slot ts)) (drop_all i touches l) k.awaited);
      }
