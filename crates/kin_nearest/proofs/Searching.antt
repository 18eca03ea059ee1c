-- The search among the hits of a point.
use Rattle.std.proofs.Common.{◌≡◌, ◌≢◌, ◌⊎◌, inl, inr, refl, sym, ap, ◌∙◌, subst, arith, List, [], ◌∷◌, ◌++◌, map, ℕ, ◌+◌, ◌^◌, ◌<◌, ◌≤◌, Bool, true, false}
use Rattle.std.specs.Prelude.{Option, Some, None, MatchOption, Contains, sum_by}
use Rattle.std.proofs.lemmas.Bool.{and_parts, cases_eq}
use Rattle.std.proofs.lemmas.List.Sums.{sum_by-cons, sum_by-append}
use Rattle.std.proofs.lemmas.Option.{slice_get_within}
use Rattle.kin_algebra.proofs.Members.{contains_head, contains_tail, contains_cases, contains_none}
use Rattle.kin_motion.specs.Nearest.{IsNearestTo, IsNearest, nearest_of}
use Rattle.kin_motion.specs.Numbers.{is_in, IsIn}
use Rattle.kin_motion.specs.Octants.{octants, comes_after, IsCandidate, IsCandidateAnswer}
use Rattle.kin_motion.specs.Scene.{Scene, IsReal}
use Rattle.kin_motion.specs.Sets.{ListsExactly}
use Rattle.kin_motion.specs.Spending.{HasRisenWithin}
use Rattle.kin_motion.proofs.CandidateLaws.{one_candidate, never_after_itself}
use Rattle.kin_motion.proofs.NearLaws.{octant_at}
use Rattle.kin_motion.proofs.NearestLaws.{nearest_proved}
use Rattle.kin_motion.proofs.RealLaws.{real_line_laws}
use Rattle.kin_motion.proofs.SetLaws.{exactly_none, exactly_both, exactly_in_words, exactly_mapped}
use Rattle.kin_wedge.specs.Wedging.{Wedging, candidate_told, IsSettledWedging}
use Rattle.kin_near.specs.Hits.{IsHitFor}
use Rattle.kin_near.proofs.Hits.{hits_suffice}
use Rattle.kin_near.proofs.WaysDown.{of_member}
use Rattle.kin_nearest.specs.Nearing.{count_lesser_there, MayNearestAsk}
use Rattle.kin_nearest.specs.Searches.{IsHitIn, IsEnd, IsKept, IsReached, MayOctantAsk}

-- the most signs for a hit from this apex
abbrev cost : Scene → ℕ → ℕ
cost s h = 4 + count_lesser_there s h

-- the hits in an octant are reached, but for those that are left
pub record IsSearched (k : Wedging) (s : Scene) (p w : ℕ) (first : Option ℕ) (before : ℕ) (best : Option ℕ) (now : ℕ) (left : List ℕ) : Type 0 where
  pub end : IsEnd s p best
  pub kept : (h : ℕ) → IsReached s p first h → IsReached s p best h
  pub done : (h : ℕ) → IsHitIn k p w h → Contains left h ⊎ IsReached s p best h
  pub hits : (h : ℕ) → Contains left h → IsHitIn k p w h
  pub apexes : List ℕ
  pub exactly : ListsExactly apexes (IsHitIn k p w)
  pub asked : now + sum_by (cost s) left ≤ before + sum_by (cost s) apexes

-- the hits in the octants below one are reached
pub record AreSearched (k : Wedging) (s : Scene) (p w before : ℕ) (best : Option ℕ) (now : ℕ) : Type 0 where
  pub end : IsEnd s p best
  pub done : (v h : ℕ) → v < w → candidate_told k h v ≡ Some p → IsReached s p best h
  pub hits : List (ℕ × ℕ)
  pub exactly : ListsExactly hits (λ h. (h.0 < 2 ^ k.size) × (h.1 < w) × (candidate_told k h.0 h.1 ≡ Some p))
  pub asked : now ≤ before + sum_by (λ h. cost s h.0) hits

module _ (k : Wedging) (s : Scene) (real : IsReal s) (settled : IsSettledWedging k s) (p : ℕ) where
  -- ---- one hit
  module _ (w h : ℕ) (low : w < 8) (hit : IsHitIn k p w h) where
    pub hit_live : IsIn h s.live
    hit_live = at (is_in h s.live) refl
      where
        at : (b : Bool) → is_in h s.live ≡ b → is_in h s.live ≡ true
        at true e = e
        at false e = absurd (let none = settled.wedges.candidates.of_others h w hit.0 low (λ l. let clash : true ≡ false = sym l ∙ e in cc) in let clash : Some p ≡ None = sym hit.1 ∙ none in cc)

    candidate : IsCandidate s (octant_at w low).0 h p
    candidate = subst (IsCandidateAnswer s (octant_at w low).0 h) hit.1 (settled.wedges.candidates.of_live h w (octant_at w low).0 hit_live (octant_at w low).1)

    pub hit_other : h ≢ p
    hit_other e =
        let o = (octant_at w low).0 in
        let inside = (of_member s real o h p candidate).1 in
        never_after_itself s (real_line_laws s real) o.first h (ap (comes_after s o.first h) e ∙ (and_parts _ _ inside).0)

  -- ---- the hits in an octant
  module _ (w : ℕ) (first : Option ℕ) (before : ℕ) where
    pub search_begun : (apexes left : List ℕ) → left ≡ apexes → ListsExactly apexes (IsHitIn k p w) → IsEnd s p first → IsSearched k s p w first before first before left
    search_begun apexes left e exactly end = subst (IsSearched k s p w first before first before) (sym e) (record {
      end = end;
      kept = λ h r. r;
      done = λ h hit. inl ((exactly.each h).1 hit);
      hits = λ h. (exactly.each h).0;
      apexes = apexes;
      exactly = exactly;
      asked = omega arith;
    })

    module _ (best : Option ℕ) (now : ℕ) (left rest : List ℕ) (apex : ℕ) (e : left ≡ apex ∷ rest) (a : IsSearched k s p w first before best now left) where
      pub hit_here : IsHitIn k p w apex
      hit_here = a.hits apex (subst (λ (xs : List ℕ). Contains xs apex) (sym e) (contains_head apex rest))

      pub search_on : (chosen then : ℕ) → IsEnd s p (Some chosen) → IsReached s p (Some chosen) apex → MatchOption best (Unit {0}) (λ b. IsKept s p b chosen) → then ≤ now + count_lesser_there s apex + 2
          → IsSearched k s p w first before (Some chosen) then rest
      search_on chosen then end reached with_best few = record {
        end = end;
        kept = λ h r. still h best with_best (a.kept h r);
        done = λ h hit. at h (a.done h hit);
        hits = λ h c. a.hits h (subst (λ (xs : List ℕ). Contains xs h) (sym e) (contains_tail apex h rest c));
        apexes = a.apexes;
        exactly = a.exactly;
        asked = let asked = a.asked in let sum = ap (sum_by (cost s)) e ∙ sum_by-cons (cost s) apex rest in omega (arith, asked, sum, few);
      }
        where
          still : (h : ℕ) (b : Option ℕ) → MatchOption b (Unit {0}) (λ c. IsKept s p c chosen) → IsReached s p b h → IsReached s p (Some chosen) h
          still h None t r = absurd r
          still h (Some b) t (f, down, r) = (f, down, λ near. t (subst (IsNearestTo s p) (sym (r near)) near) ∙ r near)

          here : (h : ℕ) → (apex ≡ h) ⊎ Contains rest h → Contains rest h ⊎ IsReached s p (Some chosen) h
          here h (inl same) = inr (subst (IsReached s p (Some chosen)) same reached)
          here h (inr there) = inl there

          at : (h : ℕ) → Contains left h ⊎ IsReached s p best h → Contains rest h ⊎ IsReached s p (Some chosen) h
          at h (inl c) = here h (contains_cases apex h rest (subst (λ (xs : List ℕ). Contains xs h) e c))
          at h (inr r) = inr (still h best with_best r)

    module _ (best : Option ℕ) (now : ℕ) (left : List ℕ) (e : left ≡ []) (a : IsSearched k s p w first before best now left) where
      pub all_reached : (h : ℕ) → IsHitIn k p w h → IsReached s p best h
      all_reached h hit = at (a.done h hit)
        where
          at : Contains left h ⊎ IsReached s p best h → IsReached s p best h
          at (inl c) = absurd (contains_none h (subst (λ (xs : List ℕ). Contains xs h) e c))
          at (inr r) = r

      pub octant_asked : HasRisenWithin (MayOctantAsk k s p w) before now
      octant_asked =
          let asked = a.asked in
          let none : sum_by (cost s) left ≡ 0 = ap (sum_by (cost s)) e in
          (sum_by (cost s) a.apexes, record { apexes = a.apexes; exactly = a.exactly; bound = omega arith }, omega (arith, asked, none))

  -- ---- all hits
  pub none_searched : (before : ℕ) → AreSearched k s p 0 before None before
  none_searched before = record {
    end = tt;
    done = λ v h low. absurd (omega (arith, low));
    hits = [];
    exactly = exactly_none _ (λ h f. let low = f.1 in omega (arith, low));
    asked = omega arith;
  }

  abbrev in_octant : ℕ → ℕ → ℕ × ℕ
  in_octant w h = (h, w)

  -- a hit in the octants below one, and one in it
  abbrev IsBelow : ℕ → ℕ × ℕ → Type 0
  IsBelow n h = (h.0 < 2 ^ k.size) × (h.1 < n) × (candidate_told k h.0 h.1 ≡ Some p)

  abbrev IsHere : ℕ → ℕ × ℕ → Type 0
  IsHere w h = (x : ℕ) × IsHitIn k p w x × (h ≡ in_octant w x)

  same_sum : (w : ℕ) (xs : List ℕ) → sum_by (λ (h : ℕ × ℕ). cost s h.0) (map (in_octant w) xs) ≡ sum_by (cost s) xs
  same_sum w [] = refl
  same_sum w (x ∷ xs) =
      let a = sum_by-cons (λ (h : ℕ × ℕ). cost s h.0) (in_octant w x) (map (in_octant w) xs) in
      let b = sum_by-cons (cost s) x xs in
      let rest = same_sum w xs in
      omega (arith, a, b, rest)

  pub more_searched : (w before : ℕ) (best : Option ℕ) (now : ℕ) (next : Option ℕ) (then : ℕ) → AreSearched k s p w before best now → IsEnd s p next → ((h : ℕ) → candidate_told k h w ≡ Some p → IsReached s p next h) → ((h : ℕ) → IsReached s p best h → IsReached s p next h)
      → HasRisenWithin (MayOctantAsk k s p w) now then → AreSearched k s p (w + 1) before next then
  more_searched w before best now next then a end reached kept (n, may, risen) = record {
    end = end;
    done = λ v h low hit. at v h (cases_eq v w) low hit;
    hits = a.hits ++ map (in_octant w) may.apexes;
    exactly =
        exactly_in_words (a.hits ++ map (in_octant w) may.apexes) _ _ (λ h. (to h, from h))
        (exactly_both a.hits (map (in_octant w) may.apexes) _ _ a.exactly
        (exactly_mapped (in_octant w) may.apexes (IsHitIn k p w) (λ x y e. ap (λ (h : ℕ × ℕ). h.0) e) may.exactly)
        (λ h f g. let low = f.1 in let same = ap (λ (h : ℕ × ℕ). h.1) g.2 in omega (arith, low, same)));
    asked =
        let asked = a.asked in
        let bound = may.bound in
        let both = sum_by-append (λ (h : ℕ × ℕ). cost s h.0) a.hits (map (in_octant w) may.apexes) in
        let same = same_sum w may.apexes in
        omega (arith, asked, risen, bound, both, same);
  }
    where
      to : (h : ℕ × ℕ) → IsBelow w h ⊎ IsHere w h → IsBelow (w + 1) h
      to h (inl (room, low, told)) = (room, omega (arith, low), told)
      to h (inr (x, hit, e)) = subst (IsBelow (w + 1)) (sym e) (hit.0, omega arith, hit.1)

      last : (h : ℕ × ℕ) → IsBelow (w + 1) h → (h.1 ≡ w) ⊎ (h.1 ≢ w) → IsBelow w h ⊎ IsHere w h
      last h (room, low, told) (inl e) = inr (h.0, (room, subst (λ n. candidate_told k h.0 n ≡ Some p) e told), λ t. (h.0, e t))
      last h (room, low, told) (inr n) = inl (room, omega (arith, low, n), told)

      from : (h : ℕ × ℕ) → IsBelow (w + 1) h → IsBelow w h ⊎ IsHere w h
      from h b = last h b (cases_eq h.1 w)

      at : (v h : ℕ) → (v ≡ w) ⊎ (v ≢ w) → v < w + 1 → candidate_told k h v ≡ Some p → IsReached s p next h
      at v h (inl e) low hit = reached h (subst (λ n. candidate_told k h n ≡ Some p) e hit)
      at v h (inr n) low hit = kept h (a.done v h (omega (arith, low, n)) hit)

  module _ (p_live : IsIn p s.live) (w before : ℕ) (best : Option ℕ) (now : ℕ) (last : w ≡ 8) (a : AreSearched k s p w before best now) where
    -- the answer there is p
    hit_told : (q h : ℕ) (f : IsHitFor s p q h) → candidate_told k h f.n ≡ Some p
    hit_told q h f = at (candidate_told k h f.n) (settled.wedges.candidates.of_live h f.n f.octant f.live f.known)
      where
        at : (answer : Option ℕ) → IsCandidateAnswer s f.octant h answer → answer ≡ Some p
        at None none = absurd (none p f.candidate)
        at (Some c) there = ap (λ (n : ℕ). Some n) (one_candidate s f.octant h c p real there f.candidate)

    nearest_reached : (q : ℕ) → IsNearestTo s p q → MatchOption best ⊥ (λ b. b ≡ q)
    nearest_reached q near = from (hits_suffice s p q real p_live near)
      where
        from : (h : ℕ) × IsHitFor s p q h → MatchOption best ⊥ (λ b. b ≡ q)
        from (h, f) = at best (a.done f.n h (let low = slice_get_within octants f.n f.octant f.known in omega (arith, low, last)) (hit_told q h f))
          where
            at : (b : Option ℕ) → IsReached s p b h → MatchOption b ⊥ (λ b. b ≡ q)
            at None r = r
            at (Some b) (e, way, kept) = let same = f.ends e way in kept (subst (IsNearestTo s p) (sym same) near) ∙ same

    pub nearest_found : IsNearest s p best
    nearest_found = at (nearest_of s p) (nearest_proved s p real)
      where
        alone : (b : Option ℕ) → IsEnd s p b → ((j : ℕ) → IsIn j s.live → j ≡ p) → IsNearest s p b
        alone None o one = one
        alone (Some b) o one = absurd (o.other (one b o.live))

        is : (q : ℕ) (b : Option ℕ) → IsNearestTo s p q → MatchOption b ⊥ (λ c. c ≡ q) → IsNearest s p b
        is q None near r = absurd r
        is q (Some b) near r = subst (IsNearestTo s p) (sym r) near

        at : (answer : Option ℕ) → IsNearest s p answer → IsNearest s p best
        at None one = alone best a.end one
        at (Some q) near = is q best near (nearest_reached q near)

    pub all_asked : HasRisenWithin (MayNearestAsk k s p) before now
    all_asked = (sum_by (λ (h : ℕ × ℕ). cost s h.0) a.hits, record { hits = a.hits; exactly = subst (λ n. ListsExactly a.hits (λ h. (h.0 < 2 ^ k.size) × (h.1 < n) × (candidate_told k h.0 h.1 ≡ Some p))) last a.exactly; bound = omega arith }, a.asked)
