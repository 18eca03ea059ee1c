-- What is kept while a mark is set, and at first.
use Rattle.std.proofs.Common.{◌≡◌, ◌⊎◌, inl, inr, refl, sym, ap, ap₂, ◌∙◌, subst, arith, List, [], ◌∷◌, ◌++◌, ℕ, zero, suc, ◌+◌, ◌*◌, ◌^◌, ◌<◌, ◌≤◌, Bool, true, false, ◌&&◌, cond, map, length, replicate, Some, None, Option}
use Rattle.std.specs.Prelude.{slice_get}
use Rattle.std.proofs.lemmas.List.{length-map, length-replicate}
use Rattle.std.proofs.lemmas.Bool.{cases_lt}
use Rattle.std.proofs.lemmas.Option.{same_Some, slice_get_within}
use Rattle.kin_algebra.proofs.Members.{contains_none}
use Rattle.kin_algebra.proofs.Places.{get_within}
use Rattle.kin_motion.specs.declared.fact.Placed.{Placed}
use Rattle.kin_motion.specs.Records.{stands_before}
use Rattle.kin_motion.specs.Numbers.{is_in, IsOnce}
use Rattle.kin_motion.specs.Octants.{Octant, Reading}
use Rattle.kin_motion.specs.Parts.{moved_by}
use Rattle.kin_list.specs.declared.mark.Mark.{Mark}
use Rattle.kin_list.specs.declared.mark.Mark.TheVariants.{Rest, Enters, Leaves, Broken}
use Rattle.kin_list.specs.Listing.{Listing, HasMarked}
use Rattle.kin_wedge.specs.Parts.{AreVacant, EachTo, IsMarked, facts_from}
use Rattle.kin_wedge.specs.Passages.{AreAnswered, AreVacantRows}
use Rattle.kin_wedge.specs.Rows.{row_of, stands_after, is_in_wedge, IsFirstAnswer}
use Rattle.kin_wedge.specs.Seen.{rows_of}
use Rattle.kin_wedge.specs.Wedging.{Wedging, AreKept, AreKeptIf, AreWedges, IsListOf, IsMarkable}
use Rattle.kin_wedge.proofs.AllRows.{items_there, row_past, same_rows}
use Rattle.kin_wedge.proofs.Unmoved.{rows_kept, facts_kept}

-- where a mark stands that can be carried out, nothing is broken
pub kept_at : (size : ℕ) (mark mark' : Mark) (lists : List Listing) (rows : List (List ℕ)) (candidates : List (Option ℕ)) → mark ≡ mark' → mark' ≡ Rest → AreKeptIf size mark lists rows candidates → AreKept size Rest lists rows candidates
kept_at size mark mark' lists rows candidates e f h = subst (λ (m : Mark). AreKeptIf size m lists rows candidates) (e ∙ f) h

pub kept_marked : (size : ℕ) (mark : Mark) (lists : List Listing) (rows : List (List ℕ)) (candidates : List (Option ℕ)) (members set : List ℕ) → HasMarked mark members set → AreKeptIf size mark lists rows candidates → AreKept size mark lists rows candidates
kept_marked size Rest lists rows candidates members set m h = h
kept_marked size (Enters i) lists rows candidates members set m h = h
kept_marked size (Leaves i) lists rows candidates members set m h = h
kept_marked size Broken lists rows candidates members set m h = absurd m

pub if_kept : (size : ℕ) (mark : Mark) (lists : List Listing) (rows : List (List ℕ)) (candidates : List (Option ℕ)) → AreKept size mark lists rows candidates → AreKeptIf size mark lists rows candidates
if_kept size Rest lists rows candidates h = h
if_kept size (Enters i) lists rows candidates h = h
if_kept size (Leaves i) lists rows candidates h = h
if_kept size Broken lists rows candidates h = tt

-- each list has the members of the first
pub member_as : (size : ℕ) (mark : Mark) (lists : List Listing) (rows : List (List ℕ)) (candidates : List (Option ℕ)) → AreKept size mark lists rows candidates → (part : ℕ) (l : Listing) (i : ℕ) → slice_get lists part ≡ Some l → is_in i l.items ≡ is_in i (row_of (rows_of lists) 0)
member_as size mark lists rows candidates k part l i e =
    let w = slice_get_within lists part l e in
    let c = k.count in
    ap (is_in i) (sym (items_there lists part l e)) ∙ k.alike part i (omega (arith, w, c))

-- a mark changes neither the members nor the facts
pub marked_rows : (mark : Mark) (old new : List Listing) → EachTo (IsMarked mark) old new → rows_of new ≡ rows_of old
marked_rows mark old new e = rows_kept old new e.count (λ part l m f g. ap (λ (x : Listing). x.items) (e.each part l m f g))

pub marked_facts : (mark : Mark) (n : ℕ) (old new : List Listing) → EachTo (IsMarked mark) old new → facts_from n new ≡ facts_from n old
marked_facts mark n old new e = facts_kept n old new e.count (λ part l m f g. ap (λ (x : Listing). x.facts) (e.each part l m f g))

pub kept_with : (size : ℕ) (mark : Mark) (old new : List Listing) (rows : List (List ℕ)) (candidates : List (Option ℕ)) → AreKept size Rest old rows candidates → EachTo (IsMarked mark) old new → IsMarkable size mark (row_of (rows_of old) 0) → AreKept size mark new rows candidates
kept_with size mark old new rows candidates k e m = record {
  count = e.count ∙ k.count;
  each = λ part n f. each part n f (get_within old part (let w = slice_get_within new part n f in let c = e.count in omega (arith, w, c)));
  same = k.same ∙ sym r;
  once = subst (λ (rs : List (List ℕ)). (part : ℕ) → part < 8 → IsOnce (row_of rs part)) (sym r) k.once;
  alike = subst (λ (rs : List (List ℕ)). (part i : ℕ) → part < 8 → is_in i (row_of rs part) ≡ is_in i (row_of rs 0)) (sym r) k.alike;
  below = subst (λ (rs : List (List ℕ)). (i : ℕ) → is_in i (row_of rs 0) ≡ true → i < 2 ^ size) (sym r) k.below;
  answered = subst (λ (rs : List (List ℕ)). AreAnswered rs candidates) (sym r) k.answered;
  markable = subst (λ (rs : List (List ℕ)). IsMarkable size mark (row_of rs 0)) (sym r) m;
}
  where
    r : rows_of new ≡ rows_of old
    r = marked_rows mark old new e

    each : (part : ℕ) (n : Listing) → slice_get new part ≡ Some n → (l : Listing) × (slice_get old part ≡ Some l) → IsListOf size mark part n
    each part n f l =
        let was = k.each part l.0 l.1 in
        subst (IsListOf size mark part) (sym (e.each part l.0 n l.1 f)) (record { dx = was.dx; dy = was.dy; room = was.room; marked = refl; nought = was.nought })

-- the value of a structure
abbrev pub wedging : ℕ → List (Option ℕ) → List ℕ → Mark → List (List ℕ) → List Placed → Wedging
wedging size candidates changed mark orders facts = record { size = size; orders = orders; facts = facts; candidates = candidates; changed = changed; mark = mark }

-- ---- at first
empty_item : (size : ℕ) (lists : List Listing) → AreVacant size lists → (k : ℕ) → row_of (rows_of lists) k ≡ []
empty_item size lists v k = at (cases_lt k 8)
  where
    at : (k < 8) ⊎ (8 ≤ k) → row_of (rows_of lists) k ≡ []
    at (inl w) = let c = v.count in let l = get_within lists k (omega (arith, w, c)) in items_there lists k l.0 l.1 ∙ ap (λ (x : Listing). x.items) (v.each k l.0 l.1)
    at (inr w) = let c = v.count in let n = length-map lists (λ (x : Listing). x.items) in row_past (rows_of lists) k (omega (arith, w, c, n))

pub vacant_facts : (n : ℕ) (lists : List Listing) → ((part : ℕ) (l : Listing) → slice_get lists part ≡ Some l → l.facts ≡ []) → facts_from n lists ≡ []
vacant_facts n [] e = refl
vacant_facts n (l ∷ ls) e = ap₂ (λ (a b : List Placed). map (moved_by n) a ++ b) (e 0 l refl) (vacant_facts (n + 1) ls (λ part m f. e (suc part) m f))

row_of-replicate : (n k : ℕ) → row_of (replicate n []) k ≡ []
row_of-replicate zero k = refl
row_of-replicate (suc n) zero = refl
row_of-replicate (suc n) (suc k) = row_of-replicate n k

pub vacant_rows : (size : ℕ) (lists : List Listing) → AreVacant size lists → rows_of lists ≡ replicate 8 []
vacant_rows size lists v =
    same_rows (rows_of lists) (replicate 8 []) (length-map lists (λ (x : Listing). x.items) ∙ v.count ∙ sym (length-replicate {A = List ℕ} 8 []))
    (λ k w. empty_item size lists v k ∙ sym (row_of-replicate 8 k))

none_from : (n k : ℕ) (a : Option ℕ) → slice_get (replicate n None) k ≡ Some a → None ≡ a
none_from zero k a e = absurd cc
none_from (suc n) zero a e = same_Some None a e
none_from (suc n) (suc k) a e = none_from n k a e

-- nobody is in an octant by empty rows
none_within : (rows : List (List ℕ)) (o : Octant) (p q : ℕ) → ((k : ℕ) → row_of rows k ≡ []) → is_in_wedge rows o p q ≡ false
none_within rows o p q h = at (stands_after rows o.first p q) (none_after o.first)
  where
    none_after : (r : Reading) → stands_after rows r p q ≡ false
    none_after r = ap (λ (xs : List ℕ). cond r.from_end (stands_before xs q p) (stands_before xs p q)) (h r.part) ∙ both r.from_end
      where
        both : (e : Bool) → cond e false false ≡ false
        both true = refl
        both false = refl

    at : (b : Bool) → b ≡ false → b && stands_after rows o.second p q ≡ false
    at true e = absurd cc
    at false e = refl

pub kept_first : (size : ℕ) (lists : List Listing) (rows : List (List ℕ)) (candidates : List (Option ℕ)) → size ≤ 12 → AreVacant size lists → AreVacantRows rows → candidates ≡ replicate (8 * 2 ^ size) None → AreWedges size Rest lists rows candidates
kept_first size lists rows candidates small v r e = record {
  small = small;
  slots = ap (λ (c : List (Option ℕ)). length c) e ∙ length-replicate (8 * 2 ^ size) None;
  kept = record {
    count = v.count;
    each = λ part l f. subst (IsListOf size Rest part) (sym (v.each part l f)) (record { dx = refl; dy = refl; room = refl; marked = refl; nought = λ p c. absurd (contains_none p c) });
    same = same_rows rows (rows_of lists) (r.count ∙ sym (length-map lists (λ (x : Listing). x.items) ∙ v.count)) (λ k w. r.each k ∙ sym (empty k));
    once = λ part h. subst IsOnce (sym (empty part)) tt;
    alike = λ part i h. ap (is_in i) (empty part ∙ sym (empty 0));
    below = λ i h. absurd (let f : false ≡ true = sym (ap (is_in i) (empty 0)) ∙ h in cc);
    answered = λ p w o answer here held. first o p answer (none_from (8 * 2 ^ size) (8 * p + w) answer (ap (λ (c : List (Option ℕ)). slice_get c (8 * p + w)) (sym e) ∙ held));
    markable = tt;
  };
}
  where
    empty : (k : ℕ) → row_of (rows_of lists) k ≡ []
    empty k = empty_item size lists v k

    first : (o : Octant) (p : ℕ) (answer : Option ℕ) → None ≡ answer → IsFirstAnswer (rows_of lists) o p answer
    first o p answer f = subst (IsFirstAnswer (rows_of lists) o p) f (λ q. none_within (rows_of lists) o p q empty)
