-- The key of the closest pair: of two different pairs exactly one beats the other, and "beats" is transitive.
use Rattle.std.proofs.Common.{◌≡◌, ◌≢◌, ◌⊎◌, inl, inr, refl, ap, sym, ◌∙◌, arith, List, [], ◌∷◌, ℕ, ◌<◌, Bool, true, false, not, ◌||◌, ◌&&◌, nat_eq, nat_lt}
use Rattle.std.specs.Prelude.{ℤ, ◌+ℤ◌, ◌-ℤ◌, Option}
use Rattle.std.proofs.lemmas.Bool.Decides.{nat_tests}
use Rattle.std.proofs.lemmas.Bool.{or_left, or_right, and_from, lt-ltb, eq-eqb}
use Rattle.kin_algebra.proofs.Magnitudes.{difference-turned}
use Rattle.kin_algebra.proofs.Ring.{by_ring, quotes}
use Rattle.kin_algebra.specs.declared.sign.Sign.{Sign}
use Rattle.kin_algebra.specs.declared.sign.Sign.TheVariants.{Minus, Zero, Plus}
use Rattle.kin_algebra.proofs.Signs.{by_signs}
use Rattle.kin_num.specs.Quadratic.{Quadratic}
use Rattle.kin_algebra.specs.Signs.{opposite_of, SumMayBe}
use Rattle.kin_num.proofs.SignLaws.{negated}
use Rattle.kin_num.proofs.InstantLaws.{quadratic_sum}
use Rattle.kin_motion.specs.declared.form.Form.TheVariants.{Dist}
use Rattle.kin_motion.specs.Course.{Course}
use Rattle.kin_motion.specs.Forms.{difference, square_of_step, polynomial_of}
use Rattle.kin_motion.specs.Scene.{Scene, IsReal}
use Rattle.kin_motion.specs.Tournaments.{beats}
use Rattle.kin_motion.specs.ClosestPairs.{Near, is_less_pair, left_is_nearer, distance_key}
use Rattle.kin_motion.specs.Laws.{HasDistanceLaws}
use Rattle.kin_motion.proofs.RealLaws.{line_sum, opposite_forms}

in_between : (a b c : ℤ) → c -ℤ a ≡ (b -ℤ a) +ℤ (c -ℤ b)
in_between a b c = by_ring (a ∷ b ∷ c ∷ []) _ _ (search quotes depth 20) (search quotes depth 20) refl

dist_turned : (p q : Quadratic) → difference p q ≡ negated (difference q p)
dist_turned p q = let f = difference-turned p.a q.a in let g = difference-turned p.b q.b in let h = difference-turned p.c q.c in λ t. record { a = f t; b = g t; c = h t }

dist_sum : (p q r : Quadratic) → difference r p ≡ quadratic_sum (difference q p) (difference r q)
dist_sum p q r = let f = in_between p.a q.a r.a in let g = in_between p.b q.b r.b in let h = in_between p.c q.c r.c in λ t. record { a = f t; b = g t; c = h t }

opposite_dist : (ms : List (Option Course)) (i j k l : ℕ) → polynomial_of ms (Dist k l i j) ≡ negated (polynomial_of ms (Dist i j k l))
unfolding polynomial_of
opposite_dist ms i j k l = dist_turned (square_of_step ms i j) (square_of_step ms k l)

chain_dist : (ms : List (Option Course)) (i j k l m n : ℕ) → polynomial_of ms (Dist i j m n) ≡ quadratic_sum (polynomial_of ms (Dist i j k l)) (polynomial_of ms (Dist k l m n))
unfolding polynomial_of
chain_dist ms i j k l m n = dist_sum (square_of_step ms i j) (square_of_step ms k l) (square_of_step ms m n)

pub real_distance_laws : (s : Scene) → IsReal s → HasDistanceLaws s
real_distance_laws s r = record {
  opposite = λ i j k l. r.sign (Dist k l i j) ∙ opposite_forms r.motions r.moment _ _ (opposite_dist r.motions i j k l) ∙ ap opposite_of (sym (r.sign (Dist i j k l)));
  chain = λ i j k l m n. by_signs (r.sign (Dist i j k l)) (r.sign (Dist k l m n)) (r.sign (Dist i j m n)) (line_sum r.motions r.moment r.canonical _ _ _ (chain_dist r.motions i j k l m n));
}

-- ---- ties
-- what the test of two pairs says
unfoldable pub LessPair : Near → Near → Type 0
LessPair p q = (p.i < q.i) ⊎ ((p.i ≡ q.i) × ((p.j < q.j) ⊎ ((p.j ≡ q.j) × (p.slot < q.slot))))

pub less_from : (p q : Near) → is_less_pair p q ≡ true → LessPair p q
unfolding LessPair
less_from p q h = at (nat_lt p.i q.i) refl (nat_eq p.i q.i) refl (nat_lt p.j q.j) refl (nat_eq p.j q.j) refl (nat_lt p.slot q.slot) refl h
  where
    at : (a : Bool) → nat_lt p.i q.i ≡ a → (b : Bool) → nat_eq p.i q.i ≡ b → (c : Bool) → nat_lt p.j q.j ≡ c → (d : Bool) → nat_eq p.j q.j ≡ d → (e : Bool) → nat_lt p.slot q.slot ≡ e → a || (b && (c || (d && e))) ≡ true
        → (p.i < q.i) ⊎ ((p.i ≡ q.i) × ((p.j < q.j) ⊎ ((p.j ≡ q.j) × (p.slot < q.slot))))
    at true f b g c u d v e w h = inl (grind (arith, nat_tests, f))
    at false f true g true u d v e w h = inr (grind (arith, nat_tests, g), inl (grind (arith, nat_tests, u)))
    at false f true g false u true v true w h = inr (grind (arith, nat_tests, g), inr (grind (arith, nat_tests, v), grind (arith, nat_tests, w)))
    at false f true g false u true v false w h = absurd cc
    at false f true g false u false v e w h = absurd cc
    at false f false g c u d v e w h = absurd cc

pub less_to : (p q : Near) → LessPair p q → is_less_pair p q ≡ true
unfolding LessPair
less_to p q (inl h) = or_left (nat_lt p.i q.i) (nat_eq p.i q.i && (nat_lt p.j q.j || (nat_eq p.j q.j && nat_lt p.slot q.slot))) (lt-ltb p.i q.i h)
less_to p q (inr (e, inl h)) = or_right (nat_lt p.i q.i) (nat_eq p.i q.i && (nat_lt p.j q.j || (nat_eq p.j q.j && nat_lt p.slot q.slot)))
    (and_from (nat_eq p.i q.i) (nat_lt p.j q.j || (nat_eq p.j q.j && nat_lt p.slot q.slot)) (eq-eqb p.i q.i e) (or_left (nat_lt p.j q.j) (nat_eq p.j q.j && nat_lt p.slot q.slot) (lt-ltb p.j q.j h)))
less_to p q (inr (e, inr (f, h))) = or_right (nat_lt p.i q.i) (nat_eq p.i q.i && (nat_lt p.j q.j || (nat_eq p.j q.j && nat_lt p.slot q.slot)))
    (and_from (nat_eq p.i q.i) (nat_lt p.j q.j || (nat_eq p.j q.j && nat_lt p.slot q.slot)) (eq-eqb p.i q.i e) (or_right (nat_lt p.j q.j) (nat_eq p.j q.j && nat_lt p.slot q.slot) (and_from (nat_eq p.j q.j) (nat_lt p.slot q.slot) (eq-eqb p.j q.j f) (lt-ltb p.slot q.slot h))))

pub not_both : (p q : Near) → LessPair p q → LessPair q p → ⊥
unfolding LessPair
not_both p q (inl h) (inl k) = omega (arith, h, k)
not_both p q (inl h) (inr (e, k)) = omega (arith, h, e)
not_both p q (inr (e, h)) (inl k) = omega (arith, e, k)
not_both p q (inr (e, inl h)) (inr (f, inl k)) = omega (arith, h, k)
not_both p q (inr (e, inl h)) (inr (f, inr (g, k))) = omega (arith, h, g)
not_both p q (inr (e, inr (g, h))) (inr (f, inl k)) = omega (arith, g, k)
not_both p q (inr (e, inr (g, h))) (inr (f, inr (u, k))) = omega (arith, h, k)

pub less_through : (p q r : Near) → LessPair p q → LessPair q r → LessPair p r
unfolding LessPair
less_through p q r (inl h) (inl k) = inl (omega (arith, h, k))
less_through p q r (inl h) (inr (e, k)) = inl (omega (arith, h, e))
less_through p q r (inr (e, h)) (inl k) = inl (omega (arith, e, k))
less_through p q r (inr (e, inl h)) (inr (f, inl k)) = inr (e ∙ f, inl (omega (arith, h, k)))
less_through p q r (inr (e, inl h)) (inr (f, inr (g, k))) = inr (e ∙ f, inl (omega (arith, h, g)))
less_through p q r (inr (e, inr (g, h))) (inr (f, inl k)) = inr (e ∙ f, inl (omega (arith, g, k)))
less_through p q r (inr (e, inr (g, h))) (inr (f, inr (u, k))) = inr (e ∙ f, inr (g ∙ u, omega (arith, h, k)))

pub three_ways : (a b : ℕ) → (a < b) ⊎ ((a ≡ b) ⊎ (b < a))
three_ways a b = at (nat_lt a b) refl (nat_eq a b) refl
  where
    at : (t : Bool) → nat_lt a b ≡ t → (u : Bool) → nat_eq a b ≡ u → (a < b) ⊎ ((a ≡ b) ⊎ (b < a))
    at true e u f = inl (grind (arith, nat_tests, e))
    at false e true f = inr (inl (grind (arith, nat_tests, f)))
    at false e false f = inr (inr (grind (arith, nat_tests, e, f)))

one_of : (p q : Near) → p ≢ q → LessPair p q ⊎ LessPair q p
unfolding LessPair
one_of p q n = at (three_ways p.i q.i) (three_ways p.j q.j) (three_ways p.slot q.slot)
  where
    at : (p.i < q.i) ⊎ ((p.i ≡ q.i) ⊎ (q.i < p.i)) → (p.j < q.j) ⊎ ((p.j ≡ q.j) ⊎ (q.j < p.j)) → (p.slot < q.slot) ⊎ ((p.slot ≡ q.slot) ⊎ (q.slot < p.slot)) → LessPair p q ⊎ LessPair q p
    at (inl h) b c = inl (inl h)
    at (inr (inr h)) b c = inr (inl h)
    at (inr (inl e)) (inl h) c = inl (inr (e, inl h))
    at (inr (inl e)) (inr (inr h)) c = inr (inr (sym e, inl h))
    at (inr (inl e)) (inr (inl f)) (inl h) = inl (inr (e, inr (f, h)))
    at (inr (inl e)) (inr (inl f)) (inr (inr h)) = inr (inr (sym e, inr (sym f, h)))
    at (inr (inl e)) (inr (inl f)) (inr (inl g)) = absurd (n (λ t. record { i = e t; j = f t; slot = g t }))

-- two pairs are one, or one is less
pub same_or_less : (p q : Near) → (p ≡ q) ⊎ (LessPair p q ⊎ LessPair q p)
unfolding LessPair
same_or_less p q = at (three_ways p.i q.i) (three_ways p.j q.j) (three_ways p.slot q.slot)
  where
    at : (p.i < q.i) ⊎ ((p.i ≡ q.i) ⊎ (q.i < p.i)) → (p.j < q.j) ⊎ ((p.j ≡ q.j) ⊎ (q.j < p.j)) → (p.slot < q.slot) ⊎ ((p.slot ≡ q.slot) ⊎ (q.slot < p.slot)) → (p ≡ q) ⊎ (LessPair p q ⊎ LessPair q p)
    at (inl h) b c = inr (inl (inl h))
    at (inr (inr h)) b c = inr (inr (inl h))
    at (inr (inl e)) (inl h) c = inr (inl (inr (e, inl h)))
    at (inr (inl e)) (inr (inr h)) c = inr (inr (inr (sym e, inl h)))
    at (inr (inl e)) (inr (inl f)) (inl h) = inr (inl (inr (e, inr (f, h))))
    at (inr (inl e)) (inr (inl f)) (inr (inr h)) = inr (inr (inr (sym e, inr (sym f, h))))
    at (inr (inl e)) (inr (inl f)) (inr (inl g)) = inl (λ t. record { i = e t; j = f t; slot = g t })

pub turned_pair : (p q : Near) → p ≢ q → is_less_pair q p ≡ not (is_less_pair p q)
turned_pair p q n = at (is_less_pair p q) refl (is_less_pair q p) refl
  where
    at : (a : Bool) → is_less_pair p q ≡ a → (b : Bool) → is_less_pair q p ≡ b → b ≡ not a
    at true e true f = absurd (not_both p q (less_from p q e) (less_from q p f))
    at true e false f = refl
    at false e true f = refl
    at false e false f = none (one_of p q n)
      where
        none : LessPair p q ⊎ LessPair q p → false ≡ true
        none (inl h) = sym e ∙ less_to p q h
        none (inr h) = sym f ∙ less_to q p h

turned_nearer : (t : Sign) (p q : Near) → p ≢ q → left_is_nearer (opposite_of t) q p ≡ not (left_is_nearer t p q)
turned_nearer Minus p q n = refl
turned_nearer Zero p q n = turned_pair p q n
turned_nearer Plus p q n = refl

nearer_through : (t u r : Sign) (p q v : Near) → SumMayBe t u r → left_is_nearer t p q ≡ true → left_is_nearer u q v ≡ true → left_is_nearer r p v ≡ true
nearer_through Minus u r p q v sum a b = absurd cc
nearer_through Zero Minus r p q v sum a b = absurd cc
nearer_through Zero Zero r p q v sum a b = ap (λ x. left_is_nearer x p v) sum ∙ less_to p v (less_through p q v (less_from p q a) (less_from q v b))
nearer_through Zero Plus r p q v sum a b = ap (λ x. left_is_nearer x p v) sum
nearer_through Plus Minus r p q v sum a b = absurd cc
nearer_through Plus Zero r p q v sum a b = ap (λ x. left_is_nearer x p v) sum
nearer_through Plus Plus r p q v sum a b = ap (λ x. left_is_nearer x p v) sum

pub nearer_total : (s : Scene) → HasDistanceLaws s → (p q : Near) → p ≢ q → beats s distance_key q p ≡ not (beats s distance_key p q)
nearer_total s laws p q n = ap (λ t. left_is_nearer t q p) (laws.opposite p.i p.j q.i q.j) ∙ turned_nearer (s.sign (Dist p.i p.j q.i q.j)) p q n

pub nearer_transitive : (s : Scene) → HasDistanceLaws s → (p q v : Near) → beats s distance_key p q ≡ true → beats s distance_key q v ≡ true → beats s distance_key p v ≡ true
nearer_transitive s laws p q v = nearer_through _ _ _ p q v (laws.chain p.i p.j q.i q.j v.i v.j)
