-- The laws of moving boxes.
use Rattle.std.proofs.Common.{◌≡◌, sym, ap, ap₂, ◌∙◌, subst, ℕ, false}
use Rattle.kin_motion.specs.declared.fact.Placed.{Placed}
use Rattle.kin_motion.specs.declared.keep.Keep.{Keep}
use Rattle.kin_motion.specs.declared.keep.Keep.TheVariants.{Boxes}
use Rattle.kin_motion.specs.Kinetics.{HaveSameLive, AllHold}
use Rattle.kin_motion.specs.Live.{IsKeepFact}
use Rattle.kin_motion.specs.Numbers.{is_in}
use Rattle.kin_motion.specs.Scene.{Scene, IsReal}
use Rattle.kin_motion.specs.Sets.{ListsExactly}
use Rattle.kin_motion.proofs.DeterminedBoxes.{boxes_determined}
use Rattle.kin_sorted.specs.declared.ends.Ends.{Ends}
use Rattle.kin_sorted.specs.Marks.{Marks, marked, names_gone}
use Rattle.kin_sorted.proofs.ListLaws.{without_none}
use Rattle.kin_boxes.specs.Boxing.{Boxing, facts_of, ranks_of, is_spared, IsBoxingAtRest, HasMembers, IsSettledBoxing, IsBoxingFor, StaysBoxing}

-- the facts determine the orders
pub determined_lem : (b : Boxing) (v w : Scene) → IsBoxingAtRest b → IsReal v → IsSettledBoxing b v → HaveSameLive v w → IsReal w → Unit {0}
    → AllHold w (facts_of b) → IsSettledBoxing b w
determined_lem b v w rest real before same real' grounded hold =
    boxes_determined v w b.by_x.rank.width b.by_y.rank.width b.by_x.items b.by_y.items (facts_of b) real real' same before hold

-- ---- as the structure of a keep
pub boxing_spares_none : (b : Boxing) (p : Placed) → IsBoxingAtRest b → is_spared b p ≡ false
boxing_spares_none b p rest = ap (λ (m : Marks). names_gone (ranks_of b.by_x.rank) m b.by_x.items p) rest.marks

pub boxing_kind_stays : (old new : Boxing) (size : ℕ) (keep : Keep) → StaysBoxing old new → IsBoxingFor old size keep → IsBoxingFor new size keep
boxing_kind_stays old new size keep same kind = (
  kind.0 ∙ ap₂ (λ (r q : Ends). Boxes r.width q.width) (sym same.0) (sym same.1),
  ap (λ (r : Ends). r.count) same.0 ∙ kind.1,
)

pub boxing_members_stay : (old new : Boxing) (s : Scene) → HasMembers old s.live → StaysBoxing old new → IsBoxingAtRest new → IsSettledBoxing new s
    → HasMembers new s.live
boxing_members_stay old new s members same rest settled = record {
  whole = rest.whole;
  members = λ e. ap (λ (m : Marks). is_in e (marked m new.by_x.items)) rest.marks ∙ ap (is_in e) (without_none new.by_x.items) ∙ settled.x_order.all e;
}

pub boxing_exact : (b : Boxing) (size : ℕ) (keep : Keep) (s : Scene) → IsBoxingFor b size keep → HasMembers b s.live → IsSettledBoxing b s
    → ListsExactly (facts_of b) (IsKeepFact size s keep)
boxing_exact b size keep s kind members settled = subst (λ (q : Keep). ListsExactly (facts_of b) (IsKeepFact size s q)) (sym kind.0) settled.exact
