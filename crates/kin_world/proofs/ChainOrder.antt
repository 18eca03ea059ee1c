-- The numbers that a node's chain has before and after keep their order: up to the next block, and where a number enters or leaves.
use Rattle.std.proofs.Common.{◌≡◌, ◌⊎◌, inl, inr, sym, ap, ap₂, ◌∙◌, subst, arith, List, ℕ, ◌*◌, ◌^◌, ◌<◌, true, false, Option, Some, None, is_some, slice_set, pos, get_or-set_other}
use Rattle.std.specs.Prelude.{Contains}
use Rattle.kin_algebra.specs.declared.sign.Sign.TheVariants.{Minus, Plus}
use Rattle.kin_algebra.specs.Signs.{opposite_of}
use Rattle.kin_num.specs.declared.instant.Moment.{Moment}
use Rattle.kin_num.specs.Canonical.{IsCanonical}
use Rattle.kin_num.specs.Instants.{sign_at}
use Rattle.kin_num.specs.Order.{IsEarlier}
use Rattle.kin_motion.specs.declared.fact.Placed.{Placed}
use Rattle.kin_motion.specs.declared.form.Form.{Form}
use Rattle.kin_motion.specs.declared.form.Form.TheVariants.{Line}
use Rattle.kin_motion.specs.declared.keep.Keep.TheVariants.{Hull}
use Rattle.kin_motion.specs.Agreements.{FitsSize}
use Rattle.kin_motion.specs.Chains.{is_plus, is_left}
use Rattle.kin_motion.specs.Course.{Course, AreSlow, live_of, motion_of, is_live}
use Rattle.kin_motion.specs.Forms.{IsAskable, along, minus, x_of_course, y_of_course, polynomial_of, sign_of_form}
use Rattle.kin_motion.specs.Live.{owned_by}
use Rattle.kin_motion.specs.Merges.{IsHullFact, points_under}
use Rattle.kin_motion.specs.Moments.{IsFromUntil, HoldsAt}
use Rattle.kin_motion.specs.Numbers.{IsIn}
use Rattle.kin_motion.specs.Scene.{Scene, Holds, IsReal, scene_at, x_sign}
use Rattle.kin_motion.proofs.ChainLaws.{chain_within, plus_from}
use Rattle.kin_motion.proofs.LiveLaws.{live-members}
use Rattle.kin_motion.proofs.Members.{in_from_contains}
use Rattle.kin_motion.proofs.MotionLaws.{written}
use Rattle.kin_motion.proofs.MotionScenes.{live_fits, real_at}
use Rattle.kin_motion.proofs.RealLaws.{real_line_laws}
use Rattle.kin_chain.proofs.MergeFacts.{rising_once}
use Rattle.kin_chain.proofs.HullDetermined.{node_stays}
use Rattle.kin_chain.proofs.NodeChains.{under_live}
use Rattle.kin_hull.specs.declared.side.Side.{Side}
use Rattle.kin_hull.specs.declared.side.Side.TheVariants.{Upper, Lower}
use Rattle.kin_hull.specs.Sides.{seen_from}
use Rattle.kin_world.specs.ChainOrder.{IsChainOfNode, TreeKeepsOrder, TreesKeepOrder, BlocksKeepOrder, InsertionsKeepOrder, RemovalsKeepOrder}
use Rattle.kin_world.proofs.HullSights.{left_is_strict, seen_real, seen_live, seen_left, tree_holds}
use Rattle.kin_world.proofs.NoJumps.{no_jump}
use Rattle.kin_world.proofs.TwoOrders.{AreExchanged, before_in_both, keep_order}

-- two points that a node's chain has in both scenes, and that change sides
abbrev ChangeSides : Scene → Scene → List ℕ → List ℕ → ℕ → ℕ → Type 0
ChangeSides v w old new i j = AreExchanged (is_left v) (is_left w) old new i j

-- where there are none, the chain keeps its order
module _ (size : ℕ) (v w : Scene) (real : IsReal v) (real' : IsReal w) where
  nodes_keep : ((node : ℕ) (old new : List ℕ) → 0 < node → node < 2 * 2 ^ size → IsChainOfNode size v node old → IsChainOfNode size w node new
      → (i j : ℕ) → ChangeSides v w old new i j → ⊥) → TreeKeepsOrder size v w
  nodes_keep none node old new some low was is =
      keep_order (is_left v) (is_left w) (left_is_strict v real) (left_is_strict w real') old new was.rising is.rising (none node old new some low was is)
      (rising_once v (real_line_laws v real) old was.rising) (rising_once w (real_line_laws w real') new is.rising)

-- the line along x
abbrev x_line : ℕ → ℕ → Form
x_line i j = Line (pos 1) (pos 0) (pos 0) i j

-- what a tree sees of motions
module _ (side : Side) (ms : List (Option Course)) where
  abbrev sight : Moment → Scene
  sight m = seen_from side (scene_at ms m)

  sight_real : (m : Moment) → IsCanonical m.at → IsReal (sight m)
  sight_real m c = seen_real side (scene_at ms m) (real_at ms m c)

  sight_live : (m : Moment) (i : ℕ) → IsIn i (sight m).live → IsIn i (live_of ms)
  sight_live m i h = subst (IsIn i) (seen_live side (scene_at ms m)) h

  -- the points of a node's chain are live
  chain_live : (size : ℕ) (m : Moment) (node : ℕ) (xs : List ℕ) → IsChainOfNode size (sight m) node xs → (i : ℕ) → Contains xs i → IsIn i (live_of ms)
  chain_live size m node xs chain i h =
      sight_live m i (under_live (sight m) size node i (chain_within (sight m) (points_under size (sight m) node) xs chain i (in_from_contains xs i h))).0

-- ---- up to the next block
module _ (ms : List (Option Course)) (size : ℕ) (slow : AreSlow ms) (fits : (m : Moment) → FitsSize size (scene_at ms m))
    (now later : Moment) (here : IsCanonical now.at) (there : IsCanonical later.at) (before : IsEarlier now later)
    (hold : (m : Moment) → IsFromUntil now later m → (p : Placed) → IsHullFact size (scene_at ms now) p → HoldsAt (scene_at ms) m p.fact) where
  module _ (side : Side) (node : ℕ) (old : List ℕ) (some : 0 < node) (low : node < 2 * 2 ^ size) (was : IsChainOfNode size (sight side ms now) node old) where
    -- before it the chain stays
    stays : (m : Moment) → IsFromUntil now later m → IsChainOfNode size (sight side ms m) node old
    stays m until =
        node_stays size (sight side ms now) (sight side ms m) (sight_real side ms now here) (sight_real side ms m until.canonical) (λ i h. fits now i (sight_live side ms now i h))
        (seen_live side (scene_at ms now) ∙ sym (seen_live side (scene_at ms m)))
        (tree_holds size (scene_at ms now) (scene_at ms m) (real_at ms now here) (real_at ms m until.canonical) (hold m until) side) node old was

    -- so what is left stays left
    left_until : (i j : ℕ) → Contains old i → Contains old j → is_left (sight side ms now) i j ≡ true
        → (m : Moment) → IsFromUntil now later m → x_sign (scene_at ms m) i j ≡ Plus
    left_until i j h k left m until =
        let strict = left_is_strict (sight side ms now) (sight_real side ms now here) in
        let strict' = left_is_strict (sight side ms m) (sight_real side ms m until.canonical) in
        let still = before_in_both (is_left (sight side ms now)) (is_left (sight side ms m)) strict strict' old i j was.rising (stays m until).rising h k left in
        plus_from (sym (seen_left side (scene_at ms m) i j) ∙ still)

    none_change : (new : List ℕ) (i j : ℕ) → ChangeSides (sight side ms now) (sight side ms later) old new i j → ⊥
    none_change new i j change = no_jump ms slow now later here there before (x_line i j) asked (left_until i j change.i_old change.j_old change.before) behind
      where
        asked : IsAskable (live_of ms) (x_line i j)
        asked = record {
          i_live = chain_live side ms size now node old was i change.i_old;
          j_live = chain_live side ms size now node old was j change.j_old;
          dx_small = omega arith;
          dy_small = omega arith;
          off_small = omega arith;
        }

        behind : x_sign (scene_at ms later) i j ≡ Minus
        behind =
            let laws = real_line_laws (scene_at ms later) (real_at ms later there) in
            laws.opposite (pos 1) (pos 0) j i ∙ ap opposite_of (plus_from (sym (seen_left side (scene_at ms later) j i) ∙ change.behind))

  side_keeps : (side : Side) → TreeKeepsOrder size (sight side ms now) (sight side ms later)
  side_keeps side =
      nodes_keep size (sight side ms now) (sight side ms later) (sight_real side ms now here) (sight_real side ms later there)
      (λ node old new some low was is. none_change side node old some low was new)

  until_keeps : TreesKeepOrder size (scene_at ms now) (scene_at ms later)
  until_keeps = record { upper = side_keeps Upper; lower = side_keeps Lower }

pub blocks_keep_order : BlocksKeepOrder
blocks_keep_order ms size keeps hull now b proper kept here next =
    until_keeps ms size proper.slow (λ m. live_fits size ms m proper.slots) now b.moment here next.canonical next.later
    (λ m until p fact. next.hold_before (owned_by hull p) (record { keep = Hull; kept = kept; fact = fact }) m until)

-- where all facts of the hull hold in a second scene its chains there are those of the first, so what keeps their order since the second keeps it since the first
pub kept_since : (size : ℕ) (u v w : Scene) → IsReal u → IsReal v → FitsSize size u → u.live ≡ v.live → ((p : Placed) → IsHullFact size u p → Holds v p.fact) → TreesKeepOrder size v w → TreesKeepOrder size u w
kept_since size u v w real real' fits same hold keeps = record {
  upper = λ node old new some low was is. keeps.upper node old new some low (moved Upper node old was) is;
  lower = λ node old new some low was is. keeps.lower node old new some low (moved Lower node old was) is;
}
  where
    moved : (side : Side) (node : ℕ) (old : List ℕ) → IsChainOfNode size (seen_from side u) node old → IsChainOfNode size (seen_from side v) node old
    moved side node old was =
        node_stays size (seen_from side u) (seen_from side v) (seen_real side u real) (seen_real side v real') (λ i h. fits i (subst (IsIn i) (seen_live side u) h)) (seen_live side u ∙ same ∙ sym (seen_live side v))
        (tree_holds size u v real real' hold side) node old was

-- ---- at one moment
-- a line between two numbers with the same motions has the same sign
same_line : (ms ns : List (Option Course)) (m : Moment) (i j : ℕ) → motion_of ms i ≡ motion_of ns i → motion_of ms j ≡ motion_of ns j
    → x_sign (scene_at ms m) i j ≡ x_sign (scene_at ns m) i j
unfolding sign_of_form polynomial_of
same_line ms ns m i j e f =
    ap₂ (λ (p q : Option Course). sign_at (along (pos 1) (pos 0) (pos 0) (minus (x_of_course q) (x_of_course p)) (minus (y_of_course q) (y_of_course p))) m) e f

-- a number that is live in both moves alike
abbrev MoveAlike : List (Option Course) → List (Option Course) → Type 0
MoveAlike ms ns = (i : ℕ) → IsIn i (live_of ms) → IsIn i (live_of ns) → motion_of ms i ≡ motion_of ns i

module _ (ms ns : List (Option Course)) (alike : MoveAlike ms ns) (size : ℕ) (m : Moment) (c : IsCanonical m.at) where
  module _ (side : Side) (node : ℕ) (old new : List ℕ) (was : IsChainOfNode size (sight side ms m) node old) (is : IsChainOfNode size (sight side ns m) node new) where
    same_motion : (i : ℕ) → Contains old i → Contains new i → motion_of ms i ≡ motion_of ns i
    same_motion i h k = alike i (chain_live side ms size m node old was i h) (chain_live side ns size m node new is i k)

    none_differ : (i j : ℕ) → ChangeSides (sight side ms m) (sight side ns m) old new i j → ⊥
    none_differ i j change =
        let line = same_line ms ns m i j (same_motion i change.i_old change.i_new) (same_motion j change.j_old change.j_new) in
        let left = seen_left side (scene_at ns m) i j ∙ ap is_plus (sym line) ∙ sym (seen_left side (scene_at ms m) i j) ∙ change.before in
        let strict = left_is_strict (sight side ns m) (sight_real side ns m c) in
        strict.never i (strict.through i j i left change.behind)

  side_alike : (side : Side) → TreeKeepsOrder size (sight side ms m) (sight side ns m)
  side_alike side =
      nodes_keep size (sight side ms m) (sight side ns m) (sight_real side ms m c) (sight_real side ns m c)
      (λ node old new some low was is. none_differ side node old new was is)

  pub alike_keeps : TreesKeepOrder size (scene_at ms m) (scene_at ns m)
  alike_keeps = record { upper = side_alike Upper; lower = side_alike Lower }

pub insertions_keep_order : InsertionsKeepOrder
insertions_keep_order ms size entering motion m free = alike_keeps ms (slice_set ms entering (Some motion)) alike size m
  where
    alike : MoveAlike ms (slice_set ms entering (Some motion))
    alike i live now = sym (get_or-set_other ms entering i (Some motion) None another)
      where
        another : i ≡ entering → ⊥
        another e = let clash : true ≡ false = sym live ∙ live-members ms i ∙ ap (is_live ms) e ∙ free in cc

-- the motions without that of a number
abbrev without : List (Option Course) → ℕ → List (Option Course)
without ms leaving = slice_set ms leaving None

pub removals_keep_order : RemovalsKeepOrder
removals_keep_order ms size leaving m = alike_keeps ms (without ms leaving) alike size m
  where
    alike : MoveAlike ms (without ms leaving)
    alike i live now = at (written ms leaving i None None)
      where
        at : (motion_of (without ms leaving) i ≡ None) ⊎ (motion_of (without ms leaving) i ≡ motion_of ms i) → motion_of ms i ≡ motion_of (without ms leaving) i
        at (inl gone) = absurd (let clash : true ≡ false = sym now ∙ live-members (without ms leaving) i ∙ ap is_some gone in cc)
        at (inr stays) = sym stays
