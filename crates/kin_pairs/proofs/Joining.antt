-- What the first parts and the tournament report together, and that the facts of a tournament are bounded.
use Rattle.std.proofs.Common.{◌≡◌, ◌⊎◌, inl, inr, ap, arith, List, ◌++◌, ℕ, ◌+◌, ◌*◌, ◌^◌, ◌<◌, ◌≤◌, length, map}
use Rattle.std.specs.Prelude.{Option, Some, Contains}
use Rattle.std.proofs.Math.Pow.{pow_mono}
use Rattle.std.proofs.lemmas.Option.{slice_get_within}
use Rattle.kin_motion.specs.declared.fact.Placed.{Placed}
use Rattle.kin_motion.specs.Deltas.{Change}
use Rattle.kin_motion.specs.Kinetics.{HasChanged}
use Rattle.kin_motion.specs.Parts.{moved_by}
use Rattle.kin_motion.specs.Scene.{Scene}
use Rattle.kin_motion.specs.Tournaments.{Key, IsNodeFact}
use Rattle.kin_motion.proofs.ChangeLaws.{both_changed}
use Rattle.kin_motion.proofs.NodeLaws.{held_slot}
use Rattle.kin_motion.proofs.SetLaws.{contains_mapped}
use Rattle.kin_motion.proofs.UnderNodes.{is_under-le}
use Rattle.kin_tourney.specs.Tournament.{Tournament, IsSettled}

-- the fact of a node is in the part of an inner node
node_low : {Item : Type 0} (s : Scene) (key : Key Item) (size : ℕ) (slots : List (Option Item)) (p : Placed) → length slots ≡ 2 ^ size → IsNodeFact s key size slots p → p.part < 2 ^ size
node_low {Item} s key size slots p room f =
    let le : 2 * p.part ≤ 2 ^ size + f.left_best.slot = is_under-le size (2 * p.part) f.left_best.slot f.left_best.among in
    let low = slice_get_within slots f.left_best.slot (Some f.left) (held_slot slots f.left_best.slot f.left f.left_best.held) in
    omega (arith, le, low, room)

-- so all its facts are in parts below 2^15
pub facts_low : {K Item : Type 0} (names : Item → List ℕ) (key : Key Item) (t : Tournament K Item) (s : Scene) → IsSettled names key t s → t.size ≤ 15 → (p : Placed) → Contains t.facts p → p.part < 2 ^ 15
facts_low {K} {Item} names key t s settled small p c =
    let low = node_low s key t.size t.slots p settled.room ((settled.tournament.exact.each p).0 c) in
    let most : 2 ^ t.size ≤ 2 ^ 15 = pow_mono small in
    omega (arith, low, most)

-- the reports of the first n parts and of the tournament are that of both
pub joined : (n : ℕ) (others others' pairs pairs' : List Placed) (out mid out' : Change) → ((p : Placed) → Contains others p → p.part < n) → ((p : Placed) → Contains others' p → p.part < n)
    → HasChanged others others' out mid → HasChanged (map (moved_by n) pairs) (map (moved_by n) pairs') mid out' → HasChanged (others ++ map (moved_by n) pairs) (others' ++ map (moved_by n) pairs') out out'
joined n others others' pairs pairs' out mid out' low low' first second = both_changed others others' (map (moved_by n) pairs) (map (moved_by n) pairs') out mid out' apart first second
  where
    high : (p : Placed) (xs : List Placed) → Contains (map (moved_by n) xs) p → n ≤ p.part
    high p xs c = let m = contains_mapped (moved_by n) xs p c in let f : p.part ≡ n + m.0.part = ap (λ (q : Placed). q.part) m.2 in omega (arith, f)

    apart : (p : Placed) → Contains others p ⊎ Contains others' p → Contains (map (moved_by n) pairs) p ⊎ Contains (map (moved_by n) pairs') p → ⊥
    apart p a b = clash (below a) (above b)
      where
        below : Contains others p ⊎ Contains others' p → p.part < n
        below (inl c) = low p c
        below (inr c) = low' p c

        above : Contains (map (moved_by n) pairs) p ⊎ Contains (map (moved_by n) pairs') p → n ≤ p.part
        above (inl c) = high p pairs c
        above (inr c) = high p pairs' c

        clash : p.part < n → n ≤ p.part → ⊥
        clash h k = omega (arith, h, k)
