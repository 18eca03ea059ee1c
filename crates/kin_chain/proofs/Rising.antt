-- Rising: what the cells give, from left to right, never goes back to the left. It is seen at one cell at a time.
use Rattle.std.proofs.Common.{◌≡◌, ◌⊎◌, inl, inr, refl, sym, ap, ◌∙◌, subst, List, [], ◌∷◌, ◌++◌, ℕ, Bool, true, false}
use Rattle.std.specs.Prelude.{Some, None, flat_map}
use Rattle.kin_algebra.specs.declared.sign.Sign.{Sign}
use Rattle.kin_algebra.specs.declared.sign.Sign.TheVariants.{Minus, Zero, Plus}
use Rattle.kin_algebra.specs.Signs.{opposite_of}
use Rattle.kin_algebra.proofs.Signs.{AtLeast, code}
use Rattle.kin_algebra.proofs.OrderedRings.{OrderedRing}
use Rattle.kin_motion.specs.Scene.{Scene}
use Rattle.kin_motion.specs.Chains.{is_left}
use Rattle.kin_motion.specs.Cells.{Cell, given_by}
use Rattle.kin_motion.specs.Numbers.{IsIn}
use Rattle.kin_motion.proofs.Members.{in_head, in_tail, in_either}
use Rattle.kin_chain.proofs.Comparisons.{AtMost, turned, own_most, most_most, below_most}
use Rattle.kin_chain.proofs.Planes.{Places}
use Rattle.kin_chain.proofs.Geometry.{Direction, Steeper, up, order_of_x}
use Rattle.kin_chain.proofs.Stays.{Stays, Comes, apart, left_test}
use Rattle.kin_chain.proofs.Ground.{Merging, both}
use Rattle.kin_chain.proofs.CellLaws.{Sound, Linked}
use Rattle.kin_chain.proofs.Tops.{Highest, given_top}
use Rattle.kin_chain.proofs.Repeats.{Fits, Rises}

-- which of the current points leads at an end: that which is above, and that of A where neither is
abbrev lead : Sign → ℕ → ℕ → ℕ
lead Plus a b = a
lead Zero a b = a
lead Minus a b = b

module _ {R : Type 0} (o : OrderedRing R) (ps : Places o) (s : Scene) (m : Merging o ps s) where
  -- ---- what is given stays
  -- kept, then stays: what the cells give is of both sets and stays in both together
  pub given_stays : (cs : List Cell) (l : Direction o) (t : Sign) (a b : ℕ) → Linked o ps s m l t a b cs → (p : ℕ) → IsIn p (flat_map given_by cs) → IsIn p (both o ps s m) × Stays o ps (both o ps s m) p
  given_stays [] l t a b linked p i = absurd cc
  given_stays (c ∷ cs) l t a b (e, f, g, (r, sound, (a', b', h, k, rest))) p i = at (in_either p (given_by c) (flat_map given_by cs) i) (given_stays cs r c.right a' b' rest p)
    where
      of_cell : Highest o ps s m l p ⊎ Highest o ps s m r p → IsIn p (both o ps s m) × Stays o ps (both o ps s m) p
      of_cell (inl top) = (top.inside, top.stays)
      of_cell (inr top) = (top.inside, top.stays)

      at : IsIn p (given_by c) ⊎ IsIn p (flat_map given_by cs) → (IsIn p (flat_map given_by cs) → IsIn p (both o ps s m) × Stays o ps (both o ps s m) p) → IsIn p (both o ps s m) × Stays o ps (both o ps s m) p
      at (inl k) rest = of_cell (given_top o ps s m c sound p k)
      at (inr k) rest = rest k

  -- ---- one cell
  -- what leads at the right end of a cell doesn't lie left of what leads at its left end: the ends of a cell where the other half takes the lead differ in slope
  module _ {l r : Direction o} (c : Cell) (sound : Sound o ps s m l r c) where
    differ : (c.left ≡ c.right → ⊥) → Steeper o l r
    differ n = at c.narrow refl
      where
        at : (b : Bool) → c.narrow ≡ b → Steeper o l r
        at false e = sound.wide e
        at true e = absurd (n (sound.narrow e))

    a_then_b : AtLeast c.left → c.right ≡ Minus → (c.left ≡ c.right → ⊥) → AtMost o ps.x c.a c.b
    a_then_b x y n =
        order_of_x o ps (differ n) (record { is = subst AtLeast sound.left_sign x })
        (record { is = inl (turned o (up o ps r) c.b c.a ∙ ap opposite_of (sym sound.right_sign ∙ y)) })

    b_then_a : c.left ≡ Minus → AtLeast c.right → (c.left ≡ c.right → ⊥) → AtMost o ps.x c.b c.a
    b_then_a x y n =
        order_of_x o ps (differ n) (record { is = inl (turned o (up o ps l) c.b c.a ∙ ap opposite_of (sym sound.left_sign ∙ x)) })
        (record { is = subst AtLeast sound.right_sign y })

    leads : (t u : Sign) → c.left ≡ t → c.right ≡ u → AtMost o ps.x (lead t c.a c.b) (lead u c.a c.b)
    leads Plus Plus e f = own_most o ps.x c.a
    leads Plus Zero e f = own_most o ps.x c.a
    leads Plus Minus e f = a_then_b (inl e) f (λ q. code (sym e ∙ q ∙ f))
    leads Zero Plus e f = own_most o ps.x c.a
    leads Zero Zero e f = own_most o ps.x c.a
    leads Zero Minus e f = a_then_b (inr e) f (λ q. code (sym e ∙ q ∙ f))
    leads Minus Plus e f = b_then_a e (inl f) (λ q. code (sym e ∙ q ∙ f))
    leads Minus Zero e f = b_then_a e (inr f) (λ q. code (sym e ∙ q ∙ f))
    leads Minus Minus e f = own_most o ps.x c.b

  -- ---- all cells
  -- no number of the list lies left of its forerunner
  abbrev Follow : ℕ → List ℕ → Type 0
  Follow p [] = Unit {0}
  Follow p (q ∷ qs) = AtMost o ps.x p q × Follow q qs

  follow_from : {p q : ℕ} → AtMost o ps.x p q → (qs : List ℕ) → Follow q qs → Follow p qs
  follow_from {p} {q} k [] r = tt
  follow_from {p} {q} k (n ∷ qs) r = (most_most o k r.0, r.1)

  through : (t u : Sign) (n : Bool) (a b : ℕ) (qs : List ℕ) → AtMost o ps.x (lead t a b) (lead u a b) → Follow (lead u a b) qs → Follow (lead t a b) (given_by (record { a = a; b = b; left = t; right = u; narrow = n }) ++ qs)
  through Plus Plus n a b qs k r = (own_most o ps.x a, (own_most o ps.x a, r))
  through Plus Zero n a b qs k r = (own_most o ps.x a, r)
  through Plus Minus n a b qs k r = (own_most o ps.x a, (k, r))
  through Zero Plus n a b qs k r = (own_most o ps.x a, r)
  through Zero Zero true a b qs k r = r
  through Zero Zero false a b qs k r = (own_most o ps.x a, r)
  through Zero Minus n a b qs k r = (k, r)
  through Minus Plus n a b qs k r = (own_most o ps.x b, (k, r))
  through Minus Zero n a b qs k r = (own_most o ps.x b, follow_from k qs r)
  through Minus Minus n a b qs k r = (own_most o ps.x b, (own_most o ps.x b, r))

  comes_most : {p q : ℕ} → Comes o ps p q → AtMost o ps.x p q
  comes_most {p} {q} (inl e) = subst (λ n. AtMost o ps.x p n) e (own_most o ps.x p)
  comes_most {p} {q} (inr b) = below_most o b

  lead_moves : (t : Sign) {a b a' b' : ℕ} → Comes o ps a a' → Comes o ps b b' → AtMost o ps.x (lead t a b) (lead t a' b')
  lead_moves Plus {a} {b} {a'} {b'} f g = comes_most f
  lead_moves Zero {a} {b} {a'} {b'} f g = comes_most f
  lead_moves Minus {a} {b} {a'} {b'} f g = comes_most g

  follows : (cs : List Cell) (l : Direction o) (t : Sign) (a b : ℕ) → Linked o ps s m l t a b cs → Follow (lead t a b) (flat_map given_by cs)
  follows [] l t a b linked = tt
  follows (c ∷ cs) l t a b (e, f, g, (r, sound, (a', b', h, k, rest))) =
      subst (λ u. Follow (lead u a b) (flat_map given_by (c ∷ cs))) e
      (subst (λ i. Follow (lead c.left i b) (flat_map given_by (c ∷ cs))) f
      (subst (λ j. Follow (lead c.left c.a j) (flat_map given_by (c ∷ cs))) g
      (through c.left c.right c.narrow c.a c.b (flat_map given_by cs) (leads c sound c.left c.right refl refl)
      (follow_from (subst (λ i. AtMost o ps.x (lead c.right i c.b) (lead c.right a' b')) (sym f) (subst (λ j. AtMost o ps.x (lead c.right a j) (lead c.right a' b')) (sym g) (lead_moves c.right h k)))
      (flat_map given_by cs) (follows cs r c.right a' b' rest)))))

  -- ---- points that stay differ in x
  abbrev AllStay : List ℕ → Type 0
  AllStay ps' = (p : ℕ) → IsIn p ps' → IsIn p (both o ps s m) × Stays o ps (both o ps s m) p

  fits : {p q : ℕ} → IsIn p (both o ps s m) × Stays o ps (both o ps s m) p → IsIn q (both o ps s m) × Stays o ps (both o ps s m) q → AtMost o ps.x p q → Fits (is_left s) (Some p) q
  fits {p} {q} x y k = at (apart o ps x.0 y.0 x.1 y.1 k)
    where
      at : Comes o ps p q → Fits (is_left s) (Some p) q
      at (inl e) = inl e
      at (inr b) = inr (left_test o ps s m.shows b)

  rise_behind : (p : ℕ) (qs : List ℕ) → AllStay (p ∷ qs) → Follow p qs → Rises (is_left s) (Some p) qs
  rise_behind p [] all r = tt
  rise_behind p (q ∷ qs) all r = (fits (all p (in_head p (q ∷ qs))) (all q (in_tail q p (q ∷ qs) (in_head q qs))) r.0, rise_behind q qs (λ n i. all n (in_tail n p (q ∷ qs) i)) r.1)

  rise_all : (p : ℕ) (qs : List ℕ) → AllStay qs → Follow p qs → Rises (is_left s) None qs
  rise_all p [] all r = tt
  rise_all p (q ∷ qs) all r = (tt, rise_behind q qs all r.1)

  pub given_rises : (cs : List Cell) (l : Direction o) (t : Sign) (a b : ℕ) → Linked o ps s m l t a b cs → Rises (is_left s) None (flat_map given_by cs)
  given_rises cs l t a b linked = rise_all (lead t a b) (flat_map given_by cs) (given_stays cs l t a b linked) (follows cs l t a b linked)
