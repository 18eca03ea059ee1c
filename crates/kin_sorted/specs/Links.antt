-- The live facts of a list, each found by the slot on its left.
use Rattle.std.specs.Prelude.{◌≡◌, ◌≢◌, ◌++◌, ℕ, ◌+◌, cond, nat_eq, slice_get, List, [], ◌∷◌, map, Option, Some, None}
use Rattle.kin_algebra.specs.declared.sign.Sign.{Sign}
use Rattle.kin_motion.specs.declared.fact.Placed.{Placed}
use Rattle.kin_motion.specs.Parts.{moved_by}
use Rattle.kin_sorted.specs.declared.link.Link.{Link}
use Rattle.kin_motion.specs.Ranks.{Ranks}

-- the link to a right neighbour with a sign, where both are there
abbrev pub linked : Option ℕ → Option Sign → Option Link
linked None t = None
linked (Some r) None = None
linked (Some r) (Some t) = Some (record { right = r; sign = t })

-- the fact of a link from i
abbrev pub fact_of : Ranks → ℕ → Link → Placed
fact_of r i l = record { part = r.part i l.right; fact = record { form = r.form i l.right; sign = l.sign } }

-- the facts of the links from n, n + 1 and so on
abbrev pub facts_from : Ranks → ℕ → List (Option Link) → List Placed
facts_from r n [] = []
facts_from r n (None ∷ ls) = facts_from r (n + 1) ls
facts_from r n (Some l ∷ ls) = fact_of r n l ∷ facts_from r (n + 1) ls

-- the link of a slot in a list with these signs
abbrev pub link_for : List ℕ → List Sign → ℕ → Option Link
link_for [] signs i = None
link_for (x ∷ xs) signs i = cond (nat_eq i x) (linked (slice_get xs 0) (slice_get signs i)) (link_for xs signs i)

-- the fact of a link, if there is one
abbrev pub link_facts : Ranks → ℕ → Option Link → List Placed
link_facts r i None = []
link_facts r i (Some l) = fact_of r i l ∷ []

-- the fact of one link took the place of another's in a part, where they differ
pub record IsTold (part : ℕ) (r : Ranks) (i : ℕ) (old new : Option Link) (dropped born dropped' born' : List Placed) : Type 0 where
  pub same : old ≡ new → (dropped' ≡ dropped) × (born' ≡ born)
  pub changed : old ≢ new → (dropped' ≡ dropped ++ map (moved_by part) (link_facts r i old)) × (born' ≡ born ++ map (moved_by part) (link_facts r i new))
