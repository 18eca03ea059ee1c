-- What is told is what is missing.
use Rattle.std.proofs.Common.{◌≡◌, ◌⊎◌, inl, inr, refl, sym, ap, ◌∙◌, subst, arith, List, [], ◌∷◌, ◌++◌, ℕ, zero, suc, ◌+◌, ◌-◌, ◌<◌, ◌≤◌, length, map, take, Some, Contains}
use Rattle.std.specs.Prelude.{slice_get, flat_map}
use Rattle.std.proofs.lemmas.List.{append-nil, append_assoc, take_more, take_all}
use Rattle.std.proofs.lemmas.Option.{slice_get_within, get_or_from_slice_get}
use Rattle.kin_algebra.proofs.Members.{contains_none, contains_head, contains_tail, contains_cases, contains_from_get}
use Rattle.kin_algebra.proofs.Places.{get_within}
use Rattle.kin_motion.specs.declared.fact.Fact.{Fact}
use Rattle.kin_motion.specs.declared.fact.Placed.{Placed}
use Rattle.kin_motion.specs.Sets.{AreDistinct}
use Rattle.kin_motion.specs.Kinetics.{HasGained}
use Rattle.kin_motion.proofs.SetLaws.{contains_map, contains_mapped, distinct_head, distinct_tail, exactly_none, exactly_one, exactly_both, exactly_in_words}
use Rattle.kin_overlay.specs.declared.record.Record.{Record}
use Rattle.kin_overlay.specs.declared.shared.Shared.{Shared}
use Rattle.kin_overlay.specs.Remembered.{placed, all_placed}
use Rattle.kin_overlay.specs.Reports.{AreShared, IsToldOne, IsTold}

module _ (part : ℕ) (known : List Fact) where
  pub told-append : (fs gs : List Fact) (before middle after : List Placed) → IsTold part known fs before middle → IsTold part known gs middle after → IsTold part known (fs ++ gs) before after
  told-append [] gs before middle after t u = subst (λ (m : List Placed). IsTold part known gs m after) t u
  told-append (f ∷ fs) gs before middle after t u = (t.0, t.1, told-append fs gs t.0 middle after t.2 u)

  more : {A : Type 0} (xs : List A) (n : ℕ) (x : A) → slice_get xs n ≡ Some x → take (n + 1) xs ≡ take n xs ++ x ∷ []
  more {A} xs n x e = take_more xs n x (slice_get_within xs n x e) ∙ ap (λ (y : A). take n xs ++ y ∷ []) (get_or_from_slice_get xs n x x e)

  flat-append : (g : Record → List Fact) (rs ss : List Record) → flat_map g (rs ++ ss) ≡ flat_map g rs ++ flat_map g ss
  flat-append g [] ss = refl
  flat-append g (r ∷ rs) ss = ap (λ (l : List Fact). g r ++ l) (flat-append g rs ss) ∙ sym (append_assoc (g r) (flat_map g rs) (flat_map g ss))

  map-append : (g : Record → Fact) (rs ss : List Record) → map g (rs ++ ss) ≡ map g rs ++ map g ss
  map-append g [] ss = refl
  map-append g (r ∷ rs) ss = ap (λ (l : List Fact). g r ∷ l) (map-append g rs ss)

  -- the facts of one more record
  pub told-flat : (g : Record → List Fact) (rs : List Record) (n : ℕ) (r : Record) (fs : List Fact) (before middle after : List Placed) → slice_get rs n ≡ Some r → fs ≡ g r
      → IsTold part known (flat_map g (take n rs)) before middle → IsTold part known fs middle after → IsTold part known (flat_map g (take (n + 1) rs)) before after
  told-flat g rs n r fs before middle after at own t u =
      let all = told-append (flat_map g (take n rs)) (g r) before middle after t (subst (λ (l : List Fact). IsTold part known l middle after) own u) in
      let next : flat_map g (take (n + 1) rs) ≡ flat_map g (take n rs) ++ g r = ap (λ (l : List Record). flat_map g l) (more rs n r at) ∙ flat-append g (take n rs) (r ∷ []) ∙ ap (λ (l : List Fact). flat_map g (take n rs) ++ l) (append-nil (g r)) in
      subst (λ (l : List Fact). IsTold part known l before after) (sym next) all

  pub told-map : (g : Record → Fact) (rs : List Record) (n : ℕ) (r : Record) (f : Fact) (before middle after : List Placed) → slice_get rs n ≡ Some r → f ≡ g r
      → IsTold part known (map g (take n rs)) before middle → IsTold part known (f ∷ []) middle after → IsTold part known (map g (take (n + 1) rs)) before after
  told-map g rs n r f before middle after at own t u =
      let all = told-append (map g (take n rs)) (g r ∷ []) before middle after t (subst (λ (l : Fact). IsTold part known (l ∷ []) middle after) own u) in
      let next : map g (take (n + 1) rs) ≡ map g (take n rs) ++ g r ∷ [] = ap (λ (l : List Record). map g l) (more rs n r at) ∙ map-append g (take n rs) (r ∷ []) in
      subst (λ (l : List Fact). IsTold part known l before after) (sym next) all

  -- nothing is told of facts that are known
  pub all-known : (fs : List Fact) (after : List Placed) → ((f : Fact) → Contains fs f → Contains known f) → IsTold part known fs after after
  all-known [] after k = refl
  all-known (f ∷ fs) after k = (after, inl (k f (contains_head f fs), refl), all-known fs after (λ g c. k g (contains_tail f g fs c)))

  -- nor of further records, whose facts are known
  further : (g : Record → List Fact) (rs : List Record) (n k : ℕ) (before after : List Placed) → n + k ≤ length rs
      → ((j : ℕ) (r : Record) (f : Fact) → n ≤ j → j < n + k → slice_get rs j ≡ Some r → Contains (g r) f → Contains known f)
      → IsTold part known (flat_map g (take n rs)) before after → IsTold part known (flat_map g (take (n + k) rs)) before after
  further g rs n zero before after room h t = subst (λ (m : ℕ). IsTold part known (flat_map g (take m rs)) before after) (omega arith) t
  further g rs n (suc k) before after room h t =
      let here = get_within rs (n + k) (omega arith) in
      let earlier = further g rs n k before after (omega arith) (λ j r f low high. h j r f low (omega arith)) t in
      subst (λ (m : ℕ). IsTold part known (flat_map g (take m rs)) before after) (omega arith)
      (told-flat g rs (n + k) here.0 (g here.0) before after after here.1 refl earlier (all-known (g here.0) after (λ f c. h (n + k) here.0 f (omega arith) (omega arith) here.1 c)))

  -- ---- the records that another list shares, all of whose facts are known
  module _ (w : Shared) (rs others : List Record) (shared : AreShared w rs others) where
    pub told-front : (g : Record → List Fact) (told : List Placed) → ((r : Record) (f : Fact) → Contains others r → Contains (g r) f → Contains known f) → IsTold part known (flat_map g (take w.front rs)) told told
    told-front g told own =
        let room = shared.room in
        let all : 0 + w.front ≡ w.front = omega arith in
        subst (λ (m : ℕ). IsTold part known (flat_map g (take m rs)) told told) all
        (further g rs 0 w.front told told (omega arith) (λ j r f low high at c. own r f (contains_from_get others j r (sym (shared.front_is j (omega arith)) ∙ at)) c) refl)

    pub told-back : (g : Record → List Fact) (n : ℕ) (before after : List Placed) → ((r : Record) (f : Fact) → Contains others r → Contains (g r) f → Contains known f) → n + w.back ≡ length rs
        → IsTold part known (flat_map g (take n rs)) before after → IsTold part known (flat_map g rs) before after
    told-back g n before after own e t =
        subst (λ (l : List Record). IsTold part known (flat_map g l) before after) (take_all (n + w.back) rs (omega arith))
        (further g rs n w.back before after (omega arith) (λ j r f low high at c. own r f (at-end j r low high at) c) t)
      where
        at-end : (j : ℕ) (r : Record) → n ≤ j → j < n + w.back → slice_get rs j ≡ Some r → Contains others r
        at-end j r low high at =
            let k = length rs - (j + 1) in
            let here : length rs - (k + 1) ≡ j = omega arith in
            contains_from_get others (length others - (k + 1)) r (sym (shared.back_is k (omega arith)) ∙ ap (λ (m : ℕ). slice_get rs m) here ∙ at)

  pub map-flat : (g : Record → Fact) (rs : List Record) → flat_map (λ r. g r ∷ []) rs ≡ map g rs
  map-flat g [] = refl
  map-flat g (r ∷ rs) = ap (λ (l : List Fact). g r ∷ l) (map-flat g rs)

  same_fact : (f g : Fact) → placed part f ≡ placed part g → f ≡ g
  same_fact f g e = ap (λ (p : Placed). p.fact) e

  -- known in its part
  known-placed : (f : Fact) → Contains (all_placed part known) (placed part f) → Contains known f
  known-placed f c = let m = contains_mapped (placed part) known (placed part f) c in subst (λ (g : Fact). Contains known g) (sym (same_fact f m.0 m.2)) m.1

  -- told is exactly what is missing, each once
  pub told-gained : (fs : List Fact) (before after : List Placed) → AreDistinct (all_placed part fs) → IsTold part known fs before after
      → HasGained before after (λ p. Contains (all_placed part fs) p × ¬ (Contains (all_placed part known) p))
  told-gained [] before after d t = record { more = []; joined = t ∙ sym (append-nil before); exactly = exactly_none _ (λ p w. contains_none p w.0) }
  told-gained (f ∷ fs) before after d (middle, one, rest) = at one (told-gained fs middle after (distinct_tail (placed part f) (all_placed part fs) d) rest)
    where
      at : IsToldOne part known f before middle → HasGained middle after (λ p. Contains (all_placed part fs) p × ¬ (Contains (all_placed part known) p))
          → HasGained before after (λ p. Contains (all_placed part (f ∷ fs)) p × ¬ (Contains (all_placed part known) p))
      at (inl (there, same)) g = record {
        more = g.more;
        joined = g.joined ∙ ap (λ (l : List Placed). l ++ g.more) same;
        exactly = exactly_in_words g.more _ _ (λ p. ((λ w. (contains_tail (placed part f) p (all_placed part fs) w.0, w.1)), (λ w. from p w (contains_cases (placed part f) p (all_placed part fs) w.0)))) g.exactly;
      }
        where
          from : (p : Placed) → Contains (all_placed part (f ∷ fs)) p × ¬ (Contains (all_placed part known) p) → (placed part f ≡ p) ⊎ Contains (all_placed part fs) p
              → Contains (all_placed part fs) p × ¬ (Contains (all_placed part known) p)
          from p w (inl e) = absurd (w.1 (subst (λ (q : Placed). Contains (all_placed part known) q) e (contains_map (placed part) known f there)))
          from p w (inr c) = (c, w.1)
      at (inr (new, next)) g = record {
        more = placed part f ∷ g.more;
        joined = g.joined ∙ ap (λ (l : List Placed). l ++ g.more) next ∙ append_assoc before (placed part f ∷ []) g.more;
        exactly = exactly_in_words (placed part f ∷ g.more) _ _ (λ p. (to p, (λ w. from p w (contains_cases (placed part f) p (all_placed part fs) w.0))))
            (exactly_both (placed part f ∷ []) g.more (λ p. p ≡ placed part f) _ (exactly_one (placed part f) (λ p. p ≡ placed part f) refl (λ p e. e)) g.exactly
            (λ p e w. distinct_head (placed part f) (all_placed part fs) d (subst (λ (q : Placed). Contains (all_placed part fs) q) e w.0)));
      }
        where
          to : (p : Placed) → (p ≡ placed part f) ⊎ (Contains (all_placed part fs) p × ¬ (Contains (all_placed part known) p)) → Contains (all_placed part (f ∷ fs)) p × ¬ (Contains (all_placed part known) p)
          to p (inl e) = subst (λ (q : Placed). Contains (all_placed part (f ∷ fs)) q × ¬ (Contains (all_placed part known) q)) (sym e) (contains_head (placed part f) (all_placed part fs), λ c. new (known-placed f c))
          to p (inr w) = (contains_tail (placed part f) p (all_placed part fs) w.0, w.1)

          from : (p : Placed) → Contains (all_placed part (f ∷ fs)) p × ¬ (Contains (all_placed part known) p) → (placed part f ≡ p) ⊎ Contains (all_placed part fs) p
              → (p ≡ placed part f) ⊎ (Contains (all_placed part fs) p × ¬ (Contains (all_placed part known) p))
          from p w (inl e) = inl (sym e)
          from p w (inr c) = inr (c, w.1)
