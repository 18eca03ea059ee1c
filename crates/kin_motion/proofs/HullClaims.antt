-- What a hull leaves out, and that every structure can be settled.
use Rattle.std.proofs.Common.{◌≡◌, ◌≢◌, ◌⊎◌, inl, inr, refl, sym, ap, ◌∙◌, subst, arith, List, [], ◌∷◌, ◌++◌, map, ℕ, ◌+◌, ◌-◌, ◌^◌, ◌<◌, ◌≤◌, Bool, true, false, cond, not}
use Rattle.std.specs.Prelude.{ℤ, pos, Option, Some, None, reverse, filter, flat_map, slice_get, option_and_then}
use Rattle.std.proofs.lemmas.List.{reverse-append}
use Rattle.std.proofs.lemmas.Bool.{and_parts}
use Rattle.kin_algebra.specs.declared.sign.Sign.{Sign}
use Rattle.kin_algebra.specs.declared.sign.Sign.TheVariants.{Zero, Plus}
use Rattle.kin_algebra.specs.Signs.{opposite_of}
use Rattle.kin_motion.specs.declared.form.Form.{Form}
use Rattle.kin_motion.specs.declared.form.Form.TheVariants.{Turn}
use Rattle.kin_motion.specs.declared.fact.Placed.{Placed}
use Rattle.kin_motion.specs.Numbers.{is_in, IsIn, numbers_from}
use Rattle.kin_motion.specs.Sets.{ListsExactly}
use Rattle.kin_motion.specs.Scene.{Scene, IsReal, reflected, placed_at}
use Rattle.kin_motion.specs.Orders.{order_of, order_facts, IsOrderFact, IsRangeFact}
use Rattle.kin_motion.specs.Tournaments.{best_of, items_under, item_in}
use Rattle.kin_motion.specs.Extremes.{along_key, point_slots, extreme_facts}
use Rattle.kin_motion.specs.Chains.{upper_chain_of, cycle_of, round}
use Rattle.kin_motion.specs.Merges.{IsNodeForm, node_forms, IsTreeFact, hull_facts}
use Rattle.kin_motion.specs.Octants.{octants, candidate_of, IsCandidateAnswer, AreCandidates}
use Rattle.kin_motion.specs.ClosestPairs.{closest_of}
use Rattle.kin_motion.specs.ClosestFacts.{closest_facts, wedge_facts}
use Rattle.kin_motion.specs.BoxFacts.{end_order_of, boxes_facts}
use Rattle.kin_motion.specs.DiameterFacts.{diameter_facts}
use Rattle.kin_motion.specs.Farthest.{farthest_of}
use Rattle.kin_motion.specs.Agreements.{FitsSize}
use Rattle.kin_motion.specs.Contents.{IsWinner}
use Rattle.kin_motion.proofs.Winners.{winner_agrees}
use Rattle.kin_motion.specs.Claims.{HullIsStrict, HullHasLeast, SettledStatesExist}
use Rattle.kin_motion.proofs.SetLaws.{exactly_in_words, exactly_in_turn, exactly_mapped, exactly_both}
use Rattle.kin_motion.proofs.RealLaws.{real_line_laws}
use Rattle.kin_motion.proofs.ReflectedFactLaws.{along_y}
use Rattle.kin_motion.proofs.ClaimLaws.{chain_is_strict, chain_has_least}
use Rattle.kin_motion.proofs.AgreementLaws.{kept-members}
use Rattle.kin_motion.proofs.CandidateLaws.{candidate_agrees}
use Rattle.kin_motion.proofs.ClosestLaws.{closest_proved}
use Rattle.kin_motion.proofs.FarthestLaws.{farthest_proved}
use Rattle.kin_motion.proofs.BoxFactLaws.{boxes_agree}
use Rattle.kin_motion.proofs.DiameterFactLaws.{diameter_facts_agree}
use Rattle.kin_motion.proofs.BestLaws.{farther-otherwise}
use Rattle.kin_motion.proofs.ExtremeFactLaws.{held_number, extreme_facts_agree, farther-through, farther-never}
use Rattle.kin_motion.proofs.ClosestFactLaws.{order_facts_agree, closest_facts_agree, part_of_order, wedge_exact}
use Rattle.kin_motion.proofs.HullFactLaws.{hull_facts_agree, node_exact, node_is_inner, one_form, part_of}
use Rattle.kin_motion.proofs.Proved.{order_proved, chain_proved, cycle_proved, live-once}
use Rattle.kin_motion.proofs.Members.{in_tail, in_left, in_either}

-- ---- a member of the cycle is one of a chain
reversed_in : (p : ℕ) (xs : List ℕ) → IsIn p (reverse xs) → IsIn p xs
reversed_in p [] h = h
reversed_in p (x ∷ xs) h = at (in_either p (reverse xs) (x ∷ []) (ap (is_in p) (sym (reverse-append (x ∷ []) xs)) ∙ h)) (reversed_in p xs)
  where
    at : IsIn p (reverse xs) ⊎ IsIn p (x ∷ []) → (IsIn p (reverse xs) → IsIn p xs) → IsIn p (x ∷ xs)
    at (inl k) rest = in_tail p x xs (rest k)
    at (inr k) rest = in_left p (x ∷ []) xs k

in_a_chain : (p : ℕ) (lower upper : List ℕ) → IsIn p (round lower upper) → IsIn p lower ⊎ IsIn p upper
in_a_chain p lower upper h = at (in_either p lower (filter (λ q. not (is_in q lower)) (reverse upper)) h)
  where
    at : IsIn p lower ⊎ IsIn p (filter (λ q. not (is_in q lower)) (reverse upper)) → IsIn p lower ⊎ IsIn p upper
    at (inl k) = inl k
    at (inr k) = inr (reversed_in p upper (and_parts (is_in p (reverse upper)) (not (is_in p lower)) (sym (kept-members (λ q. not (is_in q lower)) (reverse upper) p) ∙ k)).0)

not_plus : (t : Sign) → t ≡ Plus → t ≢ Zero
not_plus t e f = let clash : Plus ≡ Zero = sym e ∙ f in cc

not_turned : (t : Sign) → opposite_of t ≡ Plus → t ≢ Zero
not_turned t e f = let clash : Plus ≡ Zero = sym e ∙ ap opposite_of f in cc

pub hull_is_strict : HullIsStrict
hull_is_strict s xs p q r real hull there qs rs left right = at (in_a_chain p hull.lower hull.upper (subst (IsIn p) hull.joined there))
  where
    at : IsIn p hull.lower ⊎ IsIn p hull.upper → s.sign (Turn q r p) ≢ Zero
    at (inl k) = not_turned (s.sign (Turn q r p)) (chain_is_strict (reflected s) s.live hull.lower p q r hull.lower_chain k qs rs left right)
    at (inr k) = not_plus (s.sign (Turn q r p)) (chain_is_strict s s.live hull.upper p q r hull.upper_chain k qs rs left right)

pub hull_has_least : HullHasLeast
hull_has_least s xs p q real hull there qs same_x same_y = at (in_a_chain p hull.lower hull.upper (subst (IsIn p) hull.joined there))
  where
    at : IsIn p hull.lower ⊎ IsIn p hull.upper → ¬ (q < p)
    at (inl k) = chain_has_least (reflected s) s.live hull.lower p q hull.lower_chain k qs same_x (along_y s real (pos 1) p q ∙ ap opposite_of same_y)
    at (inr k) = chain_has_least s s.live hull.upper p q hull.upper_chain k qs same_x same_y

-- ---- settled states
candidate_told : Scene → ℕ → ℕ → Option ℕ
candidate_told s p w = cond (is_in p s.live) (option_and_then (λ o. candidate_of s o p) (slice_get octants w)) None

candidates_told : (size : ℕ) (s : Scene) → IsReal s → AreCandidates size s (candidate_told s)
unfolding candidate_told
candidates_told size s real = record {
  of_live = λ p w o live is. subst (IsCandidateAnswer s o p) (sym (λ t. cond (live t) (option_and_then (λ o. candidate_of s o p) (is t)) None)) (candidate_agrees s o p real);
  of_others = λ p w low few gone. absent p w (is_in p s.live) refl gone;
}
  where
    absent : (p w : ℕ) (b : Bool) → is_in p s.live ≡ b → ¬ (IsIn p s.live) → cond (is_in p s.live) (option_and_then (λ o. candidate_of s o p) (slice_get octants w)) None ≡ None
    absent p w true e gone = absurd (gone e)
    absent p w false e gone = ap (λ b. cond b (option_and_then (λ o. candidate_of s o p) (slice_get octants w)) None) e

tree_facts : ℕ → Scene → List Placed
tree_facts size s = flat_map (λ v. map (placed_at s v) (node_forms size s v)) (numbers_from 1 (2 ^ size - 1))

abbrev IsTreeOf : ℕ → Scene → ℕ → Placed → Type 0
IsTreeOf size s v p = (f : Form) × IsNodeForm size s v f × (p ≡ placed_at s v f)

tree_exact : (size : ℕ) (s : Scene) → IsReal s → FitsSize size s → ListsExactly (tree_facts size s) (IsTreeFact size s)
unfolding tree_facts
tree_exact size s real fits =
    exactly_in_words (tree_facts size s) _ _ (λ p. (to p, from p))
    (exactly_in_turn (λ v. map (placed_at s v) (node_forms size s v)) (IsTreeOf size s) (λ v. exactly_mapped (placed_at s v) (node_forms size s v) (IsNodeForm size s v) (one_form s v) (node_exact size s real fits v))
    (λ m n p w x. sym (part_of s m w.0 p w.2) ∙ part_of s n x.0 p x.2) 1 (2 ^ size - 1))
  where
    to : (p : Placed) → (n : ℕ) × (1 ≤ n) × (n < 1 + (2 ^ size - 1)) × IsTreeOf size s n p → IsTreeFact size s p
    to p (v, h, g, w) =
        let e = part_of s v w.0 p w.2 in
        record { form = w.0; merge = subst (λ n. IsNodeForm size s n w.0) (sym e) w.1; fact = w.2 ∙ ap (λ n. placed_at s n w.0) (sym e) }

    from : (p : Placed) → IsTreeFact size s p → (n : ℕ) × (1 ≤ n) × (n < 1 + (2 ^ size - 1)) × IsTreeOf size s n p
    from p w =
        let r = node_is_inner size s real fits p.part w.form w.merge in
        let h : 1 ≤ p.part = r.0 in
        let g : p.part < 2 ^ size = r.1 in
        (p.part, h, omega (arith, g), (w.form, w.merge, w.fact))

points_apart : (s : Scene) (size : ℕ) (i j a : ℕ) → item_in (point_slots size s.live) i ≡ Some a → item_in (point_slots size s.live) j ≡ Some a → i ≡ j
points_apart s size i j a e f = let g = held_number s.live 0 (2 ^ size) i a e in let h = held_number s.live 0 (2 ^ size) j a f in omega (arith, g, h)

winner_told : (size : ℕ) (s : Scene) → IsReal s → (dx dy : ℤ) (v : ℕ) → IsWinner s (along_key dx dy) size (point_slots size s.live) v (best_of s (along_key dx dy) (items_under size v (point_slots size s.live)))
winner_told size s real dx dy =
    let laws = real_line_laws s real in
    winner_agrees s (along_key dx dy) (farther-otherwise s laws dx dy) (farther-through s laws dx dy) (farther-never s laws dx dy) size (point_slots size s.live) (points_apart s size)

range_exact : (s : Scene) → IsReal s → ListsExactly (order_facts s (pos 1) (pos 0) 0 ++ order_facts s (pos 0) (pos 1) 1) (IsRangeFact s)
range_exact s real =
    exactly_both (order_facts s (pos 1) (pos 0) 0) (order_facts s (pos 0) (pos 1) 1) (IsOrderFact s (pos 1) (pos 0) 0) (IsOrderFact s (pos 0) (pos 1) 1)
    (order_facts_agree s (pos 1) (pos 0) 0 real) (order_facts_agree s (pos 0) (pos 1) 1 real)
    (λ p f g. let e = part_of_order s (pos 1) (pos 0) 0 p f in let h = part_of_order s (pos 0) (pos 1) 1 p g in omega (arith, e, h))

pub settled_states_exist : SettledStatesExist
settled_states_exist size s real fits = record {
  list = λ dx dy. (order_of s dx dy, order_facts s dx dy 0, record { order = order_proved s dx dy real; exact = order_facts_agree s dx dy 0 real });
  tournament = λ dx dy. (
    λ v. best_of s (along_key dx dy) (items_under size v (point_slots size s.live)),
    extreme_facts size s dx dy,
    record { winners = λ v low high. winner_told size s real dx dy v; exact = extreme_facts_agree size s dx dy real },
  );
  tree = (upper_chain_of s s.live, tree_facts size s, record { chain = chain_proved s s.live real (live-once s real); exact = tree_exact size s real fits });
  hull = (cycle_of s, hull_facts size s, record { is_cycle = cycle_proved s real; exact = hull_facts_agree size s real fits });
  wedges = (candidate_told s, wedge_facts s, record { candidates = candidates_told size s real; exact = wedge_exact s real });
  closest = (closest_of s, closest_facts size s, record { pair = closest_proved s real; exact = closest_facts_agree size s real });
  diameter = (farthest_of s, diameter_facts size s, record { pair = farthest_proved s real; exact = diameter_facts_agree size s real });
  boxes = λ width height. (
    end_order_of s (pos 1) (pos 0) width,
    end_order_of s (pos 0) (pos 1) height,
    boxes_facts s width height,
    boxes_agree s width height real,
  );
  range = (
    order_of s (pos 1) (pos 0),
    order_of s (pos 0) (pos 1),
    order_facts s (pos 1) (pos 0) 0 ++ order_facts s (pos 0) (pos 1) 1,
    record { x_order = order_proved s (pos 1) (pos 0) real; y_order = order_proved s (pos 0) (pos 1) real; exact = range_exact s real },
  );
}
