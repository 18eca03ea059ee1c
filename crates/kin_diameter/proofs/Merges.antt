-- A merge of the breakpoints of two chains, one breakpoint after the other.
use Rattle.std.proofs.Common.{◌≡◌, ◌⊎◌, inl, inr, refl, sym, ap, ap₂, ◌∙◌, subst, arith, List, [], ◌∷◌, ◌++◌, ◌+◌, ◌<◌, length, map, Bool, true, false, cond, ◌||◌, Option, Some, None}
use Rattle.std.proofs.lemmas.List.{append-nil, append_assoc, map-append}
use Rattle.std.proofs.lemmas.List.Elements.{filter-append}
use Rattle.std.proofs.lemmas.Option.{same_Some}
use Rattle.kin_algebra.specs.declared.sign.Sign.{Sign}
use Rattle.kin_motion.specs.declared.fact.Placed.{Placed}
use Rattle.kin_motion.specs.declared.form.Form.{Form}
use Rattle.kin_motion.specs.Merges.{Half, Half.{A, B}, Breakpoint, is_of, own_of, slope_form, slope_between, slopes_from, goes_first, is_placed_before}
use Rattle.kin_motion.specs.Numbers.{IsChain}
use Rattle.kin_motion.specs.Scene.{Scene, placed_at}
use Rattle.kin_motion.proofs.BreakpointLaws.{own_with}
use Rattle.kin_chain.specs.Merging.{is_in_place}
use Rattle.kin_diameter.specs.declared.breakpoint.Breakpoint.{Breakpoint as Pair}
use Rattle.kin_diameter.specs.declared.merge.Placing.{Placing}
use Rattle.kin_diameter.specs.Merging.{first_of, rest_of, left_of, IsAhead, IsNext, facts_between}
use Rattle.kin_diameter.specs.Seen.{half_of, seen, compared}

-- ---- one more at the end
module _ {X : Type 0} (lt : X → X → Bool) where
  pub chain_push : (xs : List X) (x y : X) → IsChain lt (xs ++ x ∷ []) → lt x y ≡ true → IsChain lt ((xs ++ x ∷ []) ++ y ∷ [])
  chain_push [] x y c e = (e, tt)
  chain_push (z ∷ []) x y c e = (c.0, (e, tt))
  chain_push (z ∷ w ∷ xs) x y c e = (c.0, chain_push (w ∷ xs) x y c.1 e)

slopes_push : (es : List Breakpoint) (e f : Breakpoint) → slopes_from ((es ++ e ∷ []) ++ f ∷ []) ≡ slopes_from (es ++ e ∷ []) ++ slope_between e f
slopes_push [] e f = append-nil (slope_between e f)
slopes_push (g ∷ []) e f = ap (λ (l : List Form). slope_between g e ++ l) (append-nil (slope_between e f)) ∙ ap (λ (l : List Form). l ++ slope_between e f) (sym (append-nil (slope_between g e)))
slopes_push (g ∷ h ∷ es) e f = ap (λ (l : List Form). slope_between g h ++ l) (slopes_push (h ∷ es) e f) ∙ sym (append_assoc (slope_between g h) (slopes_from (h ∷ es ++ e ∷ [])) (slope_between e f))

first_rest : (us : List Breakpoint) (e : Breakpoint) → first_of us ≡ Some e → us ≡ e ∷ rest_of us
first_rest [] e q = absurd cc
first_rest (u ∷ us) e q = ap (λ (f : Breakpoint). f ∷ us) (same_Some u e q)

-- what is left is less
pub less_left : (us : List Breakpoint) (e : Breakpoint) → first_of us ≡ Some e → length (rest_of us) < length us
less_left [] e q = absurd cc
less_left (u ∷ us) e q = omega arith

-- ---- a merge under way
-- the last breakpoint goes before the next one of the other half
abbrev pub IsLast : Scene → List Breakpoint → List Breakpoint → Breakpoint → Sign → Type 0
IsLast s us ls e t = ((e.half ≡ A) × IsAhead s e t (first_of ls)) ⊎ ((e.half ≡ B) × IsAhead s e t (first_of us))

-- these are the breakpoints so far, of which the last is given, if there is one
abbrev pub EndsIn : Scene → List Breakpoint → List Breakpoint → List Breakpoint → Option Placing → Type 0
EndsIn s us ls es None = es ≡ []
EndsIn s us ls es (Some p) = (front : List Breakpoint) × (es ≡ front ++ seen p.at ∷ []) × IsLast s us ls (seen p.at) p.ahead

-- of the breakpoints of both chains, these are in their order, and those are left
pub record IsUnderWay (s : Scene) (upper lower us ls es : List Breakpoint) (last : Option Placing) : Type 0 where
  pub of_upper : own_of A es ++ us ≡ upper
  pub of_lower : own_of B es ++ ls ≡ lower
  pub in_place : IsChain (is_in_place s) es
  pub ends : EndsIn s us ls es last

pub begins : (s : Scene) (upper lower : List Breakpoint) → IsUnderWay s upper lower upper lower [] None
begins s upper lower = record { of_upper = refl; of_lower = refl; in_place = tt; ends = refl }

-- the same in other words
pub under_way_is : (s : Scene) (upper lower us us' ls ls' es es' : List Breakpoint) (last : Option Placing) → us' ≡ us → ls' ≡ ls → es' ≡ es → IsUnderWay s upper lower us ls es last → IsUnderWay s upper lower us' ls' es' last
under_way_is s upper lower us us' ls ls' es es' last a b c w =
    subst (λ (l : List Breakpoint). IsUnderWay s upper lower l ls' es' last) (sym a)
    (subst (λ (l : List Breakpoint). IsUnderWay s upper lower us l es' last) (sym b) (subst (λ (l : List Breakpoint). IsUnderWay s upper lower us ls l last) (sym c) w))

-- ---- one more
own_push : (h g : Half) (es : List Breakpoint) (e : Breakpoint) → e.half ≡ g → own_of h (es ++ e ∷ []) ≡ own_of h es ++ cond (is_of h g) (e ∷ []) []
own_push h g es e q = filter-append (λ (f : Breakpoint). is_of h f.half) es (e ∷ []) ∙ ap (λ (l : List Breakpoint). own_of h es ++ l) (own_with h g e [] q)

-- those of its half
own_taken : (h : Half) (es us all : List Breakpoint) (e : Breakpoint) → e.half ≡ h → is_of h h ≡ true → first_of us ≡ Some e → own_of h es ++ us ≡ all → own_of h (es ++ e ∷ []) ++ rest_of us ≡ all
own_taken h es us all e q self first is =
    ap (λ (l : List Breakpoint). l ++ rest_of us) (own_push h h es e q ∙ ap (λ b. own_of h es ++ cond b (e ∷ []) []) self) ∙ append_assoc (own_of h es) (e ∷ []) (rest_of us)
    ∙ ap (λ (l : List Breakpoint). own_of h es ++ l) (sym (first_rest us e first)) ∙ is

-- and the others
other_kept : (h g : Half) (es us all : List Breakpoint) (e : Breakpoint) → e.half ≡ g → is_of h g ≡ false → own_of h es ++ us ≡ all → own_of h (es ++ e ∷ []) ++ us ≡ all
other_kept h g es us all e q apart is =
    ap (λ (l : List Breakpoint). l ++ us) (own_push h g es e q ∙ ap (λ b. own_of h es ++ cond b (e ∷ []) []) apart ∙ append-nil (own_of h es)) ∙ is

module _ (s : Scene) where
  -- the last is in place before the next one of the other half
  ahead_in_place : (d e : Breakpoint) (t : Sign) (o : Option Breakpoint) → o ≡ Some e → IsAhead s d t o → (t ≡ s.sign (slope_form d e)) × (is_in_place s d e ≡ true)
  ahead_in_place d e t o q a = let w = subst (IsAhead s d t) q a in (w.0, always (is_of d.half e.half) (is_placed_before s d e) (ap (λ u. goes_first u d.half e.half) (sym w.0) ∙ w.1))
    where
      always : (a b : Bool) → b ≡ true → a || b ≡ true
      always true b e = refl
      always false b e = e

  same_in_place : (h : Half) (d e : Breakpoint) → d.half ≡ h → e.half ≡ h → is_of h h ≡ true → is_in_place s d e ≡ true
  same_in_place h d e p q self = ap₂ (λ x y. is_of x y || is_placed_before s d e) p q ∙ ap (λ b. b || is_placed_before s d e) self

  -- the sign of their slope is known
  abbrev Fits : Breakpoint → Breakpoint → Sign → Type 0
  Fits d e t = (is_in_place s d e ≡ true) × (is_of d.half e.half ≡ false → t ≡ s.sign (slope_form d e))

  last_fits : (us ls : List Breakpoint) (d e : Breakpoint) (t u : Sign) → IsLast s us ls d t → IsNext s us ls e u → Fits d e t
  last_fits us ls d e t u (inl (p, a)) (inl n) = (same_in_place A d e p n.half refl, λ apart. absurd (let clash : true ≡ false = sym (ap₂ is_of p n.half) ∙ apart in cc))
  last_fits us ls d e t u (inl (p, a)) (inr n) = let w = ahead_in_place d e t (first_of ls) n.first a in (w.1, λ apart. w.0)
  last_fits us ls d e t u (inr (p, a)) (inl n) = let w = ahead_in_place d e t (first_of us) n.first a in (w.1, λ apart. w.0)
  last_fits us ls d e t u (inr (p, a)) (inr n) = (same_in_place B d e p n.half refl, λ apart. absurd (let clash : true ≡ false = sym (ap₂ is_of p n.half) ∙ apart in cc))

  -- the order
  in_place_more : (us ls es : List Breakpoint) (last : Option Placing) (e : Breakpoint) (t : Sign) → EndsIn s us ls es last → IsNext s us ls e t → IsChain (is_in_place s) es → IsChain (is_in_place s) (es ++ e ∷ [])
  in_place_more us ls es None e t ends next c = subst (λ (l : List Breakpoint). IsChain (is_in_place s) (l ++ e ∷ [])) (sym ends) tt
  in_place_more us ls es (Some p) e t ends next c =
      subst (λ (l : List Breakpoint). IsChain (is_in_place s) (l ++ e ∷ [])) (sym ends.1)
      (chain_push (is_in_place s) ends.0 (seen p.at) e (subst (IsChain (is_in_place s)) ends.1 c) (last_fits us ls (seen p.at) e p.ahead t ends.2 next).0)

  -- the facts
  fact_more : (p : Placing) (f : Pair) → (is_of (half_of p.at.chain) (half_of f.chain) ≡ false → p.ahead ≡ s.sign (slope_form (seen p.at) (seen f)))
      → map (placed_at s 0) (slope_between (seen p.at) (seen f)) ≡ facts_between (Some p) f
  fact_more p f own = at (is_of (half_of p.at.chain) (half_of f.chain)) own
    where
      at : (b : Bool) → (b ≡ false → p.ahead ≡ s.sign (slope_form (seen p.at) (seen f))) → map (placed_at s 0) (cond b [] (slope_form (seen p.at) (seen f) ∷ [])) ≡ cond b [] (compared (seen p.at) (seen f) p.ahead ∷ [])
      at true k = refl
      at false k = ap (λ t. compared (seen p.at) (seen f) t ∷ []) (sym (k refl))

  pub facts_more : (us ls es : List Breakpoint) (last : Option Placing) (next : Pair) (t : Sign) (facts : List Placed) → EndsIn s us ls es last → IsNext s us ls (seen next) t → facts ≡ map (placed_at s 0) (slopes_from es)
      → facts ++ facts_between last next ≡ map (placed_at s 0) (slopes_from (es ++ seen next ∷ []))
  facts_more us ls es None next t facts ends n is =
      append-nil facts ∙ is ∙ ap (λ (l : List Breakpoint). map (placed_at s 0) (slopes_from l)) ends ∙ sym (ap (λ (l : List Breakpoint). map (placed_at s 0) (slopes_from (l ++ seen next ∷ []))) ends)
  facts_more us ls es (Some p) next t facts ends n is =
      ap₂ (λ (x y : List Placed). x ++ y) (is ∙ ap (λ (l : List Breakpoint). map (placed_at s 0) (slopes_from l)) ends.1) (sym (fact_more p next (last_fits us ls (seen p.at) (seen next) p.ahead t ends.2 n).1))
      ∙ sym (map-append (placed_at s 0) (slopes_from (ends.0 ++ seen p.at ∷ [])) (slope_between (seen p.at) (seen next)))
      ∙ ap (map (placed_at s 0)) (sym (slopes_push ends.0 (seen p.at) (seen next)))
      ∙ sym (ap (λ (l : List Breakpoint). map (placed_at s 0) (slopes_from (l ++ seen next ∷ []))) ends.1)

  pub goes_on : (upper lower us ls es : List Breakpoint) (last : Option Placing) (p : Placing) → IsUnderWay s upper lower us ls es last → IsNext s us ls (seen p.at) p.ahead
      → IsUnderWay s upper lower (left_of A (half_of p.at.chain) us) (left_of B (half_of p.at.chain) ls) (es ++ seen p.at ∷ []) (Some p)
  goes_on upper lower us ls es last p w (inl n) =
      subst (λ h. IsUnderWay s upper lower (left_of A h us) (left_of B h ls) (es ++ seen p.at ∷ []) (Some p)) (sym n.half)
      (record {
        of_upper = own_taken A es us upper (seen p.at) n.half refl n.first w.of_upper;
        of_lower = other_kept B A es ls lower (seen p.at) n.half refl w.of_lower;
        in_place = in_place_more us ls es last (seen p.at) p.ahead w.ends (inl n) w.in_place;
        ends = (es, refl, inl (n.half, n.ahead));
      })
  goes_on upper lower us ls es last p w (inr n) =
      subst (λ h. IsUnderWay s upper lower (left_of A h us) (left_of B h ls) (es ++ seen p.at ∷ []) (Some p)) (sym n.half)
      (record {
        of_upper = other_kept A B es us upper (seen p.at) n.half refl w.of_upper;
        of_lower = own_taken B es ls lower (seen p.at) n.half refl n.first w.of_lower;
        in_place = in_place_more us ls es last (seen p.at) p.ahead w.ends (inr n) w.in_place;
        ends = (es, refl, inr (n.half, n.ahead));
      })

  -- fewer are left
  pub fewer : (us ls : List Breakpoint) (p : Placing) → IsNext s us ls (seen p.at) p.ahead
      → length (left_of A (half_of p.at.chain) us) + length (left_of B (half_of p.at.chain) ls) < length us + length ls
  fewer us ls p (inl n) =
      subst (λ h. length (left_of A h us) + length (left_of B h ls) < length us + length ls) (sym n.half) (let less = less_left us (seen p.at) n.first in omega (arith, less))
  fewer us ls p (inr n) =
      subst (λ h. length (left_of A h us) + length (left_of B h ls) < length us + length ls) (sym n.half) (let less = less_left ls (seen p.at) n.first in omega (arith, less))
