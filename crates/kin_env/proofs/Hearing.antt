-- A visited node among the others.
use Rattle.std.proofs.Common.{◌≡◌, ◌≢◌, refl, sym, ap, ◌∙◌, subst, arith, List, [], ◌∷◌, ◌++◌, ℕ, zero, suc, ◌+◌, ◌*◌, ◌-◌, ◌<◌, length, set, get_or}
use Rattle.std.specs.Prelude.{Option, Some, slice_get}
use Rattle.std.proofs.lemmas.List.{length-set, length-append, set-append_left, set-append_right}
use Rattle.std.proofs.lemmas.Option.{same_Some, slice_get_read}
use Rattle.kin_algebra.proofs.Places.{get-set_same, get-set_other, get_front}
use Rattle.kin_motion.specs.Deltas.{Change}
use Rattle.kin_motion.specs.Kinetics.{HasChanged}
use Rattle.kin_motion.specs.Scene.{Scene}
use Rattle.kin_env.specs.declared.node.Node.{Node}
use Rattle.kin_env.specs.Nodes.{chain_with, chain_of, merge_from, passed_from, edits_from, failed_from, merge_at, chain_at, facts_at, facts_with}
use Rattle.kin_env.specs.Joints.{Leads, IsJoint, IsSettledThere, HalvesKeepOrder, IsVisited}
use Rattle.kin_env.specs.Walks.{IsQuieted, IsHeard}

pub chain_read : (ns : List Node) (u : ℕ) (n : Node) → slice_get ns u ≡ Some n → chain_at ns u ≡ chain_of n
chain_read ns u n e = ap (λ (o : Option Node). chain_with (merge_from o) (passed_from o)) e

get_behind : (xs ys : List Node) (n k : ℕ) → length xs ≡ n → slice_get (xs ++ ys) (n + k) ≡ slice_get ys k
get_behind [] ys n k e = ap (λ (m : ℕ). slice_get ys m) (omega arith)
get_behind (x ∷ xs) ys zero k e = absurd (omega arith)
get_behind (x ∷ xs) ys (suc n) k e =
    let further : suc n + k ≡ suc (n + k) = omega arith in
    ap (λ (m : ℕ). slice_get (x ∷ (xs ++ ys)) m) further ∙ get_behind xs ys n k (omega arith)

-- what a node is that is read where it stands
pub read_there : (ns : List Node) (u : ℕ) (n : Node) → u < length ns → n ≡ get_or ns u n → slice_get ns u ≡ Some n
read_there ns u n inside e = slice_get_read ns (length ns) u n refl inside e

-- what is asked of a node and its halves is so where they are read
pub halves_read : (ns : List Node) (v : ℕ) (n l r : Node) → slice_get ns v ≡ Some n → slice_get ns (2 * v) ≡ Some l → slice_get ns (2 * v + 1) ≡ Some r
    → HalvesKeepOrder (merge_at ns v) (chain_at ns (2 * v)) (chain_at ns (2 * v + 1)) → HalvesKeepOrder n.merge (chain_of l) (chain_of r)
halves_read ns v n l r here left right h =
    subst (λ (o : Option Node). HalvesKeepOrder (merge_from o) (chain_of l) (chain_of r)) here
    (subst (λ (a : List ℕ). HalvesKeepOrder (merge_at ns v) a (chain_of r)) (chain_read ns (2 * v) l left)
    (subst (λ (b : List ℕ). HalvesKeepOrder (merge_at ns v) (chain_at ns (2 * v)) b) (chain_read ns (2 * v + 1) r right) h))

-- the nodes in two pieces: those above the halves of a node, and those from its halves on
module _ (ns : List Node) (v : ℕ) (some : 0 < v) (room : 2 * v + 1 < length ns) (above below : List Node) (whole : above ++ below ≡ ns) (above_room : length above ≡ 2 * v) where
  -- what a node is that is read in its piece
  pub read_above : (n : Node) → n ≡ get_or above v n → slice_get ns v ≡ Some n
  read_above n e =
      let wide : v < length above = let k = above_room in omega arith in
      subst (λ (l : List Node). slice_get l v ≡ Some n) whole (get_front above below v n (slice_get_read above (length above) v n refl wide e))

  below_room : 1 < length below
  below_room = let e : length (above ++ below) ≡ length ns = ap length whole in let f = length-append above below in let k = above_room in omega arith

  at_below : (k : ℕ) → slice_get ns (2 * v + k) ≡ slice_get below k
  at_below k = sym (ap (λ (l : List Node). slice_get l (2 * v + k)) whole) ∙ get_behind above below (2 * v) k above_room

  pub read_left : (n : Node) → n ≡ get_or below 0 n → slice_get ns (2 * v) ≡ Some n
  read_left n e = ap (λ (m : ℕ). slice_get ns m) (omega arith) ∙ at_below 0 ∙ slice_get_read below (length below) 0 n refl (let k = below_room in omega arith) e

  pub read_right : (n : Node) → n ≡ get_or below 1 n → slice_get ns (2 * v + 1) ≡ Some n
  read_right n e = at_below 1 ∙ slice_get_read below (length below) 1 n refl below_room e

  -- the right half, where the left one was changed
  pub read_right_then : (left n : Node) → n ≡ get_or (set below 0 left) 1 n → slice_get ns (2 * v + 1) ≡ Some n
  read_right_then left n e =
      at_below 1 ∙ sym (get-set_other below 0 1 left (omega arith))
      ∙ slice_get_read (set below 0 left) (length (set below 0 left)) 1 n refl (let k = length-set below 0 left in let m = below_room in omega arith) e

  -- both pieces with three nodes changed, joined again
  pub joined : (visited left right : Node) → set (set (set ns v visited) (2 * v) left) (2 * v + 1) right ≡ set above v visited ++ set (set below 0 left) 1 right
  joined visited left right =
      let wide : v < length above = let k = above_room in omega arith in
      let front = set above v visited in
      let front_room : length front ≡ 2 * v = length-set above v visited ∙ above_room in
      let none : 2 * v - 2 * v ≡ 0 = omega arith in
      let one : 2 * v + 1 - 2 * v ≡ 1 = omega arith in
      let first : set ns v visited ≡ front ++ below = ap (λ (l : List Node). set l v visited) (sym whole) ∙ set-append_left above below v visited wide in
      let second : set (set ns v visited) (2 * v) left ≡ front ++ set below 0 left =
      ap (λ (l : List Node). set l (2 * v) left) first ∙ set-append_right front below (2 * v) (2 * v) left front_room (omega arith) ∙ ap (λ (k : ℕ). front ++ set below k left) none in
      ap (λ (l : List Node). set l (2 * v + 1) right) second ∙ set-append_right front (set below 0 left) (2 * v) (2 * v + 1) right front_room (omega arith) ∙ ap (λ (k : ℕ). front ++ set (set below 0 left) k right) one

module _ (ns : List Node) (v : ℕ) (some : 0 < v) (room : 2 * v + 1 < length ns) (above below : List Node) (whole : above ++ below ≡ ns) (above_room : length above ≡ 2 * v) (n l r visited l' r' left right : Node)
    (n_there : slice_get ns v ≡ Some n) (l_there : slice_get ns (2 * v) ≡ Some l) (r_there : slice_get ns (2 * v + 1) ≡ Some r) where
  abbrev with_visited : List Node
  with_visited = set ns v visited

  abbrev with_left : List Node
  with_left = set with_visited (2 * v) left

  abbrev with_right : List Node
  with_right = set with_left (2 * v + 1) right

  same_room : length with_right ≡ length ns
  same_room = length-set with_left (2 * v + 1) right ∙ length-set with_visited (2 * v) left ∙ length-set ns v visited

  before_left : (u : ℕ) → u ≢ v → slice_get with_visited u ≡ slice_get ns u
  before_left u m = get-set_other ns v u visited m

  others : (u : ℕ) → u ≢ v → u ≢ 2 * v → u ≢ 2 * v + 1 → slice_get with_right u ≡ slice_get ns u
  others u m p q = get-set_other with_left (2 * v + 1) u right q ∙ get-set_other with_visited (2 * v) u left p ∙ before_left u m

  at_node : slice_get with_right v ≡ Some visited
  at_node =
      get-set_other with_left (2 * v + 1) v right (omega arith) ∙ get-set_other with_visited (2 * v) v left (omega arith)
      ∙ get-set_same ns v visited (omega arith)

  at_left : slice_get with_right (2 * v) ≡ Some left
  at_left =
      get-set_other with_left (2 * v + 1) (2 * v) right (omega arith)
      ∙ get-set_same with_visited (2 * v) left (let e : length with_visited ≡ length ns = length-set ns v visited in omega arith)

  at_right : slice_get with_right (2 * v + 1) ≡ Some right
  at_right = get-set_same with_left (2 * v + 1) right (let e : length with_left ≡ length ns = length-set with_visited (2 * v) left ∙ length-set ns v visited in omega arith)

  quieted : (u : ℕ) (old new : Node) → slice_get ns u ≡ Some old → slice_get with_right u ≡ Some new → new.merge ≡ old.merge → new.passed.items ≡ old.passed.items → new.failed.items ≡ old.failed.items → new.edits.items ≡ []
      → IsQuieted ns with_right u
  quieted u old new e f merge passed failed edits = record {
    merge = ap merge_from f ∙ merge ∙ sym (ap merge_from e);
    passed = ap passed_from f ∙ passed ∙ sym (ap passed_from e);
    failed = ap failed_from f ∙ failed ∙ sym (ap failed_from e);
    edits = ap edits_from f ∙ edits;
  }

  -- a half is what it was before its edits were cleared
  left_was : l' ≡ get_or below 0 l' → l' ≡ l
  left_was e = same_Some _ _ (sym (read_left ns v some room above below whole above_room l' e) ∙ l_there)

  right_was : r' ≡ get_or (set below 0 left) 1 r' → r' ≡ r
  right_was e = same_Some _ _ (sym (read_right_then ns v some room above below whole above_room left r' e) ∙ r_there)

  pub heard : (s : Scene) (before after : Change) → IsVisited v s n visited l r before after
      → l' ≡ get_or below 0 l' → left.merge ≡ l'.merge → left.passed.items ≡ l'.passed.items → left.failed.items ≡ l'.failed.items → left.edits.items ≡ []
      → r' ≡ get_or (set below 0 left) 1 r' → right.merge ≡ r'.merge → right.passed.items ≡ r'.passed.items → right.failed.items ≡ r'.failed.items → right.edits.items ≡ []
      → IsHeard v s ns (set above v visited ++ set (set below 0 left) 1 right) before after
  heard s before after w lg lm lp lf le rg rm rp rf re =
      let lw = left_was lg in
      let rw' = right_was rg in
      subst (λ (ws : List Node). IsHeard v s ns ws before after) (joined ns v some room above below whole above_room visited left right) (record {
        room = same_room;
        others = others;
        left = quieted (2 * v) l left l_there at_left (lm ∙ ap (λ (x : Node). x.merge) lw) (lp ∙ ap (λ (x : Node). x.passed.items) lw) (lf ∙ ap (λ (x : Node). x.failed.items) lw) le;
        right = quieted (2 * v + 1) r right r_there at_right (rm ∙ ap (λ (x : Node). x.merge) rw') (rp ∙ ap (λ (x : Node). x.passed.items) rw') (rf ∙ ap (λ (x : Node). x.failed.items) rw') re;
        joint = subst (λ (o : Option Node). IsJoint v (merge_from o) (passed_from o) (chain_at ns (2 * v)) (chain_at ns (2 * v + 1))) (sym at_node)
            (subst (λ (a : List ℕ). IsJoint v visited.merge visited.passed.items a (chain_at ns (2 * v + 1))) (sym (chain_read ns (2 * v) l l_there))
            (subst (λ (b : List ℕ). IsJoint v visited.merge visited.passed.items (chain_of l) b) (sym (chain_read ns (2 * v + 1) r r_there)) w.joint));
        now = subst (λ (o : Option Node). IsSettledThere s (merge_from o)) (sym at_node) w.now;
        leads = subst (λ (o : Option Node). Leads (edits_from o) (chain_at ns v) (chain_with (merge_from o) (passed_from o))) (sym at_node)
            (subst (λ (a : List ℕ). Leads visited.edits.items a (chain_of visited)) (sym (chain_read ns v n n_there)) w.leads);
        failed = ap failed_from at_node ∙ w.failed;
        changed = subst (λ (o : Option Node). HasChanged (facts_at ns v) (facts_with (merge_from o)) before after) (sym at_node)
            (subst (λ (o : Option Node). HasChanged (facts_with (merge_from o)) (facts_with visited.merge) before after) (sym n_there) w.changed);
      })
