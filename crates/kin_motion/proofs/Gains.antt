-- What a list gains: in other words, first these and then those, and mapped where it stands.
use Rattle.std.proofs.Common.{◌≡◌, ◌⊎◌, inl, inr, sym, ap, ◌∙◌, subst, arith, ℕ, ◌+◌, ◌-◌, ◌<◌, ◌≤◌, List, [], ◌++◌, length, get_or, map, take, drop}
use Rattle.std.specs.Prelude.{Contains, ◌↔◌}
use Rattle.std.proofs.lemmas.List.{append-nil, append_assoc, get_or-drop, length-drop}
use Rattle.std.proofs.Math.Seq.{take-append_seam, drop-append_seam}
use Rattle.kin_motion.specs.declared.fact.Placed.{Placed}
use Rattle.kin_motion.specs.Deltas.{Change}
use Rattle.kin_motion.specs.Kinetics.{HasGained, HasChanged}
use Rattle.kin_motion.proofs.SetLaws.{contains_map, contains_mapped, exactly_none, exactly_both, exactly_in_words, exactly_mapped}

pub gained_in_words : (before after : List Placed) (p q : Placed → Type 0) → ((x : Placed) → p x ↔ q x) → HasGained before after p → HasGained before after q
gained_in_words before after p q same g = record { more = g.more; joined = g.joined; exactly = exactly_in_words g.more p q same g.exactly }

pub gained_none : (xs : List Placed) (p : Placed → Type 0) → ((x : Placed) → ¬ (p x)) → HasGained xs xs p
gained_none xs p n = record { more = []; joined = sym (append-nil xs); exactly = exactly_none p n }

-- first these and then those
pub gained_both : (before middle after : List Placed) (p q r : Placed → Type 0) → ((x : Placed) → p x → q x → ⊥) → ((x : Placed) → (p x ⊎ q x) ↔ r x) → HasGained before middle p → HasGained middle after q → HasGained before after r
gained_both before middle after p q r apart words g h = record {
  more = g.more ++ h.more;
  joined = h.joined ∙ ap (λ (l : List Placed). l ++ h.more) g.joined ∙ append_assoc before g.more h.more;
  exactly = exactly_in_words (g.more ++ h.more) _ r words (exactly_both g.more h.more p q g.exactly h.exactly apart);
}

-- what was lost before, or goes now where nothing of that was lost, is what is lost from then on
pub lost_more : {Now Gone Next There : Type 0} → There ⊎ ¬ There → (There → ¬ Now) → (¬ There → Now ↔ Next) → (There → Next → Gone) → (Gone → Next) → (Now ⊎ Gone) ↔ Next
lost_more {Now} {Gone} {Next} {There} where_is none same goes gone = (to where_is, from where_is)
  where
    to : There ⊎ ¬ There → Now ⊎ Gone → Next
    to d (inr w) = gone w
    to (inl t) (inl w) = absurd (none t w)
    to (inr n) (inl w) = (same n).0 w

    from : There ⊎ ¬ There → Next → Now ⊎ Gone
    from (inl t) w = inr (goes t w)
    from (inr n) w = inl ((same n).1 w)

-- ---- where it stands
start : (before after more : List Placed) (n : ℕ) → n ≡ length before → after ≡ before ++ more → take n after ≡ before
start before after more n here e = ap (λ (m : ℕ). take m after) here ∙ ap (λ (l : List Placed). take (length before) l) e ∙ take-append_seam before more

end : (before after more : List Placed) (n : ℕ) → n ≡ length before → after ≡ before ++ more → drop n after ≡ more
end before after more n here e = ap (λ (m : ℕ). drop m after) here ∙ ap (λ (l : List Placed). drop (length before) l) e ∙ drop-append_seam before more

-- behind what was there
pub gained_behind : (n : ℕ) (before after : List Placed) (which : Placed → Type 0) → n ≡ length before → HasGained before after which → (p : Placed) → Contains (drop n after) p → which p
gained_behind n before after which here g p c = (g.exactly.each p).0 (subst (λ (l : List Placed). Contains l p) (end before after g.more n here g.joined) c)

-- what stands in a list at a place, where the list is as it was from there on, stood in it behind its start
pub behind_start : (old now : List Placed) (from place : ℕ) (p : Placed) {count : ℕ} → from ≤ place → length now ≡ length old → place < count → count ≡ length old → drop place now ≡ drop place old → get_or now place p ≡ p → Contains (drop from old) p
behind_start old now from place p {count} low room test is same here =
    let inside : place < length old = omega (arith, test, is) in
    (place - from, subst (λ n. place - from < n) (sym (length-drop from old)) (omega (arith, low, inside)), get_or-drop from old (place - from) p ∙ ap (λ n. get_or old n p) there ∙ as_it_was ∙ here)
  where
    there : from + (place - from) ≡ place
    there = omega (arith, low)

    none : place + 0 ≡ place
    none = omega arith

    as_it_was : get_or old place p ≡ get_or now place p
    as_it_was =
        ap (λ n. get_or old n p) (sym none) ∙ sym (get_or-drop place old 0 p) ∙ ap (λ (l : List Placed). get_or l 0 p) (sym same) ∙ get_or-drop place now 0 p ∙ ap (λ n. get_or now n p) none

-- ---- mapped by a function that tells facts apart
module _ (f : Placed → Placed) (one : (p q : Placed) → f p ≡ f q → p ≡ q) where
  pub mapped_there : (xs : List Placed) (p : Placed) → Contains (map f xs) (f p) → Contains xs p
  mapped_there xs p c = let m = contains_mapped f xs (f p) c in subst (Contains xs) (sym (one p m.0 m.2)) m.1

  pub there_and_not : (xs ys : List Placed) (z : Placed)
      → ((x : Placed) × (Contains xs x × ¬ (Contains ys x)) × (z ≡ f x)) ↔ (Contains (map f xs) z × ¬ (Contains (map f ys) z))
  there_and_not xs ys z = (
    λ h. (subst (Contains (map f xs)) (sym h.2) (contains_map f xs h.0 h.1.0), λ c. h.1.1 (mapped_there ys h.0 (subst (Contains (map f ys)) h.2 c))),
    λ h. let m = contains_mapped f xs z h.0 in (m.0, (m.1, λ c. h.1 (subst (Contains (map f ys)) (sym m.2) (contains_map f ys m.0 c))), m.2),
  )

  -- what was gained, mapped where it stands
  gained : (before after after' : List Placed) (n : ℕ) (old new : List Placed) → n ≡ length before → HasGained before after (λ p. Contains old p × ¬ (Contains new p))
      → after' ≡ take n after ++ map f (drop n after) → HasGained before after' (λ p. Contains (map f old) p × ¬ (Contains (map f new) p))
  gained before after after' n old new here g e = record {
    more = map f g.more;
    joined = e ∙ ap (λ (l : List Placed). l ++ map f (drop n after)) (start before after g.more n here g.joined) ∙ ap (λ (l : List Placed). before ++ map f l) (end before after g.more n here g.joined);
    exactly = exactly_in_words (map f g.more) _ _ (there_and_not old new) (exactly_mapped f g.more _ one g.exactly);
  }

  -- a report, mapped where it stands
  pub mapped_report : (old new : List Placed) (out mid out' : Change) (m n : ℕ) → m ≡ length out.dropped → n ≡ length out.born → HasChanged old new out mid
      → out'.dropped ≡ take m mid.dropped ++ map f (drop m mid.dropped) → out'.born ≡ take n mid.born ++ map f (drop n mid.born) → HasChanged (map f old) (map f new) out out'
  mapped_report old new out mid out' m n at_dropped at_born h dropped born = record {
    dropped = gained out.dropped mid.dropped out'.dropped m old new at_dropped h.dropped dropped;
    born = gained out.born mid.born out'.born n new old at_born h.born born;
  }
