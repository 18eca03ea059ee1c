-- The list of breakpoints with what is remembered, and its facts.
use Rattle.std.specs.Prelude.{ℕ, pos, List, [], ◌∷◌, ◌++◌, map, flat_map, Option, Some, None}
use Rattle.kin_algebra.specs.declared.sign.Sign.{Sign}
use Rattle.kin_motion.specs.declared.form.Form.TheVariants.{Line, Turn}
use Rattle.kin_motion.specs.declared.fact.Fact.{Fact}
use Rattle.kin_motion.specs.declared.fact.Placed.{Placed}
use Rattle.kin_motion.specs.Merges.{Breakpoint, slope_form}
use Rattle.kin_overlay.specs.declared.record.Record.{Record}
use Rattle.kin_overlay.specs.declared.record.Next.{Next}
use Rattle.kin_overlay.specs.declared.end.End.{End}
use Rattle.kin_overlay.specs.Seen.{seen}

-- the breakpoints in their order with what is remembered at each, and what is remembered at both outer ends
pub record Remembered : Type 0 where
  pub records : List Record
  pub left : Option End
  pub right : Option End

-- the breakpoint of a record
abbrev pub place_of : Record → Breakpoint
place_of r = seen r.at

-- the breakpoints alone
abbrev pub breakpoints : List Record → List Breakpoint
breakpoints rs = map place_of rs

-- the left points of the breakpoints
abbrev pub left_points : List Record → List ℕ
left_points rs = map (λ (r : Record). r.at.left) rs

-- (Y) the turn to the current point of the other half
abbrev pub turn_fact : Record → Fact
turn_fact r = record { form = Turn r.at.left r.at.right r.across; sign = r.turn }

-- (X) the slope form with a next breakpoint of the other half
abbrev pub slope_facts_of : Breakpoint → Option Next → List Fact
slope_facts_of e None = []
slope_facts_of e (Some n) = record { form = slope_form e (seen n.at); sign = n.slope } ∷ []

-- the slope fact of a record, if there is one
abbrev pub slope_facts : Record → List Fact
slope_facts r = slope_facts_of (place_of r) r.next

-- the fact by y, if there is one
abbrev pub y_facts : ℕ → ℕ → Option Sign → List Fact
y_facts a b None = []
y_facts a b (Some t) = record { form = Line (pos 0) (pos 1) (pos 0) a b; sign = t } ∷ []

-- (E) the facts of an outer end
abbrev pub end_facts : Option End → List Fact
end_facts None = []
end_facts (Some e) = record { form = Line (pos 1) (pos 0) (pos 0) e.a e.b; sign = e.x } ∷ y_facts e.a e.b e.y

-- the facts of the list
abbrev pub facts_of : Remembered → List Fact
facts_of m = map turn_fact m.records ++ flat_map slope_facts m.records ++ end_facts m.left ++ end_facts m.right

-- a fact in a part
abbrev pub placed : ℕ → Fact → Placed
placed part f = record { part = part; fact = f }

-- facts in a part
abbrev pub all_placed : ℕ → List Fact → List Placed
all_placed part fs = map (placed part) fs
