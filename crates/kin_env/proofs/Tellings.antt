-- Told edits: what they drop, and which failed facts are left for a merge.
use Rattle.std.proofs.Common.{◌≡◌, ◌⊎◌, inl, inr, refl, sym, ap, ◌∙◌, subst, List, [], ◌∷◌, ◌++◌, ℕ, ◌+◌, Bool, true, false, not, ◌||◌, take, drop}
use Rattle.std.specs.Prelude.{Option, None, Contains, IsFalse, filter}
use Rattle.std.proofs.lemmas.List.{take-append-drop, drop-drop}
use Rattle.kin_motion.specs.declared.form.Form.{Form}
use Rattle.kin_motion.specs.declared.form.Form.TheVariants.{Line, Turn, Slope, Dist}
use Rattle.kin_motion.specs.declared.fact.Placed.{Placed}
use Rattle.kin_motion.specs.Edits.{Edit, edited, all_edited, dropped_by_one, dropped_by}
use Rattle.kin_motion.specs.Forms.{names, IsAskable}
use Rattle.kin_motion.specs.Kinetics.{ListsFailing}
use Rattle.kin_motion.specs.Merges.{IsMergeFact}
use Rattle.kin_motion.specs.Numbers.{is_in, IsIn}
use Rattle.kin_motion.specs.Scene.{Scene, Holds}
use Rattle.kin_motion.proofs.AskableMerges.{merge_form_askable}
use Rattle.kin_motion.proofs.SetLaws.{filter-sound, filter-complete, distinct_filter}
use Rattle.std.proofs.lemmas.Bool.{false_from_ne_true, both_ways, not-true, or_right}
use Rattle.kin_motion.proofs.Members.{in_left, in_right, in_either, in_cases}
use Rattle.kin_overlay.specs.declared.half.Half.TheVariants.{A, B}
use Rattle.kin_overlay.specs.Overlays.{Merge, names_any, names_gone, told}
use Rattle.kin_algebra.proofs.Members.{contains_none, contains_head}
use Rattle.kin_env.specs.declared.node.Node.{Node}
use Rattle.kin_env.specs.Nodes.{chain_of, facts_with}
use Rattle.kin_env.specs.Joints.{Leads, IsMergeOf, IsMergeTold, AreHalves, AreSpared}

-- ---- what edits drop
-- a number of a list is in its front, in the middle or in the rest
in_parts : (p d i : ℕ) (xs : List ℕ) → is_in i xs ≡ true → (is_in i (take p xs) ≡ true) ⊎ ((is_in i (take d (drop p xs)) ≡ true) ⊎ (is_in i (drop (p + d) xs) ≡ true))
in_parts p d i xs h = at (in_either i (take p xs) (drop p xs) (ap (is_in i) (take-append-drop p xs) ∙ h))
  where
    behind : (is_in i (take d (drop p xs)) ≡ true) ⊎ (is_in i (drop d (drop p xs)) ≡ true) → (is_in i (take p xs) ≡ true) ⊎ ((is_in i (take d (drop p xs)) ≡ true) ⊎ (is_in i (drop (p + d) xs) ≡ true))
    behind (inl k) = inr (inl k)
    behind (inr k) = inr (inr (ap (is_in i) (sym (drop-drop d p xs)) ∙ k))

    at : (is_in i (take p xs) ≡ true) ⊎ (is_in i (drop p xs) ≡ true) → (is_in i (take p xs) ≡ true) ⊎ ((is_in i (take d (drop p xs)) ≡ true) ⊎ (is_in i (drop (p + d) xs) ≡ true))
    at (inl k) = inl k
    at (inr k) = behind (in_either i (take d (drop p xs)) (drop d (drop p xs)) (ap (is_in i) (take-append-drop d (drop p xs)) ∙ k))

dropped_once : (e : Edit) (i : ℕ) (xs : List ℕ) → is_in i xs ≡ true → (is_in i (edited e xs) ≡ true) ⊎ (is_in i (dropped_by_one e xs) ≡ true)
dropped_once e i xs h = at (in_parts e.place e.drop i xs h)
  where
    at : (is_in i (take e.place xs) ≡ true) ⊎ ((is_in i (take e.drop (drop e.place xs)) ≡ true) ⊎ (is_in i (drop (e.place + e.drop) xs) ≡ true)) → (is_in i (edited e xs) ≡ true) ⊎ (is_in i (dropped_by_one e xs) ≡ true)
    at (inl k) = inl (in_left i (take e.place xs ++ e.put) (drop (e.place + e.drop) xs) (in_left i (take e.place xs) e.put k))
    at (inr (inl k)) = inr k
    at (inr (inr k)) = inl (in_right i (take e.place xs ++ e.put) (drop (e.place + e.drop) xs) k)

-- a number that isn't there after the edits was dropped by them
pub dropped_or_there : (es : List Edit) (i : ℕ) (xs : List ℕ) → is_in i xs ≡ true → (is_in i (all_edited es xs) ≡ true) ⊎ (is_in i (dropped_by es xs) ≡ true)
dropped_or_there [] i xs h = inl h
dropped_or_there (e ∷ es) i xs h = at (dropped_once e i xs h) (dropped_or_there es i (edited e xs))
  where
    at : (is_in i (edited e xs) ≡ true) ⊎ (is_in i (dropped_by_one e xs) ≡ true) → (is_in i (edited e xs) ≡ true → (is_in i (all_edited es (edited e xs)) ≡ true) ⊎ (is_in i (dropped_by es (edited e xs)) ≡ true))
        → (is_in i (all_edited es (edited e xs)) ≡ true) ⊎ (is_in i (dropped_by_one e xs ++ dropped_by es (edited e xs)) ≡ true)
    at (inr k) rest = inr (in_left i (dropped_by_one e xs) (dropped_by es (edited e xs)) k)
    at (inl k) rest = on (rest k)
      where
        on : (is_in i (all_edited es (edited e xs)) ≡ true) ⊎ (is_in i (dropped_by es (edited e xs)) ≡ true) → (is_in i (all_edited es (edited e xs)) ≡ true) ⊎ (is_in i (dropped_by_one e xs ++ dropped_by es (edited e xs)) ≡ true)
        on (inl j) = inl j
        on (inr j) = inr (in_right i (dropped_by_one e xs) (dropped_by es (edited e xs)) j)

-- ---- which numbers a fact names
-- all numbers of a list are in another
abbrev AreIn : List ℕ → List ℕ → Type 0
AreIn live [] = Unit {0}
AreIn live (x ∷ xs) = IsIn x live × AreIn live xs

within : (live xs : List ℕ) (i : ℕ) → AreIn live xs → is_in i xs ≡ true → is_in i live ≡ true
within live [] i a h = absurd cc
within live (x ∷ xs) i a h = at (in_cases i x xs h) (within live xs i a.1)
  where
    at : (i ≡ x) ⊎ (is_in i xs ≡ true) → (is_in i xs ≡ true → is_in i live ≡ true) → is_in i live ≡ true
    at (inl e) rest = ap (λ j. is_in j live) e ∙ a.0
    at (inr k) rest = rest k

asked_names : (live : List ℕ) (f : Form) (i : ℕ) → IsAskable live f → names f i ≡ true → is_in i live ≡ true
asked_names live (Line dx dy off j k) i a h = within live (j ∷ k ∷ []) i (a.i_live, (a.j_live, tt)) h
asked_names live (Turn j k l) i a h = within live (j ∷ k ∷ l ∷ []) i (a.0, (a.1, (a.2, tt))) h
asked_names live (Slope j k l m) i a h = within live (j ∷ k ∷ l ∷ m ∷ []) i (a.0, (a.1, (a.2, (a.3, tt)))) h
asked_names live (Dist j k l m) i a h = within live (j ∷ k ∷ l ∷ m ∷ []) i (a.0, (a.1, (a.2, (a.3, tt)))) h

-- a fact of a merge names numbers of its chains alone
pub merge_fact_names : (s : Scene) (a b : List ℕ) (part : ℕ) (p : Placed) (i : ℕ) → IsMergeFact s a b part p → names p.fact.form i ≡ true → (is_in i a ≡ true) ⊎ (is_in i b ≡ true)
merge_fact_names s a b part p i m h =
    in_either i a b
    (asked_names (a ++ b) m.form i (merge_form_askable (a ++ b) s a b m.form (λ j k. in_left j a b k) (λ j k. in_right j a b k) m.merge) (ap (λ (q : Placed). names q.fact.form i) (sym m.fact) ∙ h))

-- a form names one of the numbers
pub named_any : (f : Form) (is : List ℕ) (i : ℕ) → names f i ≡ true → is_in i is ≡ true → names_any f is ≡ true
named_any f [] i h k = absurd cc
named_any f (x ∷ is) i h k = at (in_cases i x is k) (named_any f is i h)
  where
    at : (i ≡ x) ⊎ (is_in i is ≡ true) → (is_in i is ≡ true → names_any f is ≡ true) → names f x || names_any f is ≡ true
    at (inl e) rest = ap (λ b. b || names_any f is) (ap (names f) (sym e) ∙ h)
    at (inr j) rest = or_right (names f x) (names_any f is) (rest j)

-- ---- which failed facts are left
module _ (v : ℕ) (s : Scene) (m : Merge) (a b ca cb : List ℕ) (ea eb : List Edit) (spared : Placed → Bool) (of : IsMergeOf v m a b) (left : Leads ea a ca) (right : Leads eb b cb)
    (halves : AreHalves s ca cb) (are_spared : AreSpared s spared) where
  abbrev after : Merge
  after = told B eb (told A ea m)

  -- a number that a fact names and that isn't live is dropped by the told edits
  dropped : (i : ℕ) → is_in i s.live ≡ false → (is_in i m.a ≡ true) ⊎ (is_in i m.b ≡ true) → is_in i after.gone ≡ true
  dropped i gone (inl h) = at (dropped_or_there ea i m.a h)
    where
      at : (is_in i (all_edited ea m.a) ≡ true) ⊎ (is_in i (dropped_by ea m.a) ≡ true) → is_in i after.gone ≡ true
      at (inl k) = absurd (both_ways _ gone (halves.a_live i (ap (λ (l : List ℕ). is_in i l) (sym left.lead ∙ ap (all_edited ea) (sym of.a_is)) ∙ k)))
      at (inr k) = in_left i (m.gone ++ dropped_by ea m.a) (dropped_by eb m.b) (in_right i m.gone (dropped_by ea m.a) k)
  dropped i gone (inr h) = at (dropped_or_there eb i m.b h)
    where
      at : (is_in i (all_edited eb m.b) ≡ true) ⊎ (is_in i (dropped_by eb m.b) ≡ true) → is_in i after.gone ≡ true
      at (inl k) = absurd (both_ways _ gone (halves.b_live i (ap (λ (l : List ℕ). is_in i l) (sym right.lead ∙ ap (all_edited eb) (sym of.b_is)) ∙ k)))
      at (inr k) = in_right i (m.gone ++ dropped_by ea m.a) (dropped_by eb m.b) k

  -- a spared fact of the merge names a number that the told edits drop
  spared_is_gone : (p : Placed) → Contains m.facts p → spared p ≡ true → names_gone after p ≡ true
  spared_is_gone p there e =
      let w = are_spared p e in
      named_any p.fact.form after.gone w.0 w.1 (dropped w.0 w.2 (merge_fact_names of.before m.a m.b m.part p w.0 ((of.settled.exact.each p).0 there) w.1))

  pub told_failing : (failed : List Placed) → ListsFailing m.facts spared s failed → ListsFailing m.facts (names_gone after) s (filter (λ p. not (names_gone after p)) failed)
  told_failing failed lists = record {
    once = distinct_filter (λ p. not (names_gone after p)) failed lists.once;
    each = λ p. (to p, from p);
  }
    where
      to : (p : Placed) → Contains (filter (λ p. not (names_gone after p)) failed) p → Contains m.facts p × IsFalse (names_gone after p) × ¬ (Holds s p.fact)
      to p h =
          let k = filter-sound (λ p. not (names_gone after p)) failed p h in
          let w = (lists.each p).0 k.0 in
          (w.0, not-true (names_gone after p) k.1, w.2)

      from : (p : Placed) → Contains m.facts p × IsFalse (names_gone after p) × ¬ (Holds s p.fact) → Contains (filter (λ p. not (names_gone after p)) failed) p
      from p (there, stays, fails) =
          filter-complete (λ p. not (names_gone after p)) failed p
          ((lists.each p).1 (there, false_from_ne_true (spared p) (λ e. both_ways _ stays (spared_is_gone p there e)), fails))
          (ap not stays)

-- the same of a merge that is told what its halves tell
pub told_at : (v : ℕ) (s : Scene) (m : Merge) (failed : List Placed) (left right : Node) → IsMergeTold v s m failed left right → (m1 m2 : Merge) (ea eb : List Edit) (xs : List Placed)
    → ea ≡ left.edits.items → eb ≡ right.edits.items → m1 ≡ told A ea m → m2 ≡ told B eb m1 → xs ≡ filter (λ p. not (names_gone m2 p)) failed → ListsFailing m2.facts (names_gone m2) s xs
told_at v s m failed left right t m1 m2 ea eb xs a_is b_is first second rest =
    subst (λ (l : List Placed). ListsFailing m2.facts (names_gone m2) s l) (sym rest)
    (subst (λ (n : Merge). ListsFailing n.facts (names_gone n) s (filter (λ p. not (names_gone n p)) failed)) (sym is)
    (told_failing v s m t.a t.b (chain_of left) (chain_of right) left.edits.items right.edits.items t.spared t.of t.a_leads t.b_leads t.halves t.are_spared failed t.failing))
  where
    is : m2 ≡ told B right.edits.items (told A left.edits.items m)
    is = second ∙ ap (told B eb) first ∙ ap (λ (es : List Edit). told B es (told A ea m)) b_is ∙ ap (λ (es : List Edit). told B right.edits.items (told A es m)) a_is

-- where there is no merge no fact has failed
pub none_failed : (o : Option Merge) (spared : Placed → Bool) (s : Scene) (failed : List Placed) → ListsFailing (facts_with o) spared s failed → o ≡ None → failed ≡ []
none_failed o spared s [] lists e = refl
none_failed o spared s (p ∷ ps) lists e = absurd (contains_none p (subst (λ (m : Option Merge). Contains (facts_with m) p) e ((lists.each p).0 (contains_head p ps)).0))
