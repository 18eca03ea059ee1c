-- What a fact is known by: its seat, which a plan gives by arithmetic, or else its bucket. No public clause cites this module.
use Rattle.std.specs.Prelude.{ℕ, ◌+◌, ◌-◌, ◌*◌, ◌/◌, ◌^◌, ◌%◌, nat_lt, if◌then◌else◌, Bool, false, nat_eq, List, [], ◌∷◌, Option, Some, None, slice_get}
use Rattle.std.specs.Int.{w32, leading_zeros}
use Rattle.kin_motion.specs.declared.form.Form.{Form}
use Rattle.kin_fail.specs.declared.owned.Owned.{Owned}
use Rattle.kin_cert.specs.declared.bucket.Label.{Label}
use Rattle.kin_cert.specs.declared.plan.Section.{Section}
use Rattle.kin_cert.specs.declared.plan.Plan.{Plan}
use Rattle.kin_cert.specs.declared.key.Key.{Key}
use Rattle.kin_cert.specs.declared.key.Key.TheVariants.{Seat, Bucket}
use Rattle.kin_cert.specs.Bucket.{bucket_number, is_bucket}

-- twice the level of node v, and one more in the second tree; node v has the parts 2v and 2v + 1, and nodes of one level have equally many leading zeros
abbrev pub row_of : ℕ → ℕ
row_of part = 2 * (30 - leading_zeros w32 part) + part % 2

-- in a section: a fact of a list sits by the number that its form names first
abbrev pub list_seat : ℕ → Section → ℕ → ℕ → Option ℕ
list_seat numbers s list number = if nat_lt (number % 2 ^ 30) numbers then Some (s.base + list * numbers + number % 2 ^ 30) else None

-- a row of merges has three lists, one for lines, one for turns and one for slopes
abbrev pub merge_seat : ℕ → Section → ℕ → ℕ → Option ℕ
merge_seat numbers s part number = if nat_lt (row_of part) s.rows then list_seat numbers s (3 * row_of part + number / 2 ^ 30) number else None

-- a fact of two parts 2k and 2k + 1 sits as one of the list k, and any other as one of a merge
abbrev pub joint_seat : ℕ → Section → ℕ → ℕ → Option ℕ
joint_seat numbers s part number = if nat_lt (part / 2) s.pairs then list_seat numbers s (part / 2) number else merge_seat numbers s part number

-- a fact of a list sits by its number, one of a tournament by its node, and any other in a seat of several parts
abbrev pub seat_in : ℕ → Section → ℕ → ℕ → Option ℕ
seat_in numbers s part number =
    if nat_lt part s.lists
    then list_seat numbers s part number
    else (if nat_lt (part - s.lists) s.nodes then Some (s.base + s.lists * numbers + (part - s.lists)) else joint_seat numbers s part number)

-- the same, where the structure has a section
abbrev pub seat_at : ℕ → Option Section → ℕ → ℕ → Option ℕ
seat_at numbers None part number = None
seat_at numbers (Some s) part number = seat_in numbers s part number

abbrev pub seat_of : Plan → ℕ → ℕ → Form → Option ℕ
seat_of plan structure part form = seat_at plan.numbers (slice_get plan.sections.items structure) part (bucket_number form)

-- the seat, or the bucket where there is none
abbrev pub seat_or : Option ℕ → List ℕ → Key
seat_or None bucket = Bucket bucket
seat_or (Some seat) bucket = Seat seat

abbrev pub key_at : Plan → ℕ → Label → Key
key_at plan structure l = seat_or (seat_at plan.numbers (slice_get plan.sections.items structure) l.part l.number) (structure ∷ l.part ∷ l.number ∷ [])

abbrev pub label_of : ℕ → Form → Label
label_of part form = record { part = part; number = bucket_number form }

abbrev pub key_of : Plan → ℕ → ℕ → Form → Key
key_of plan structure part form = key_at plan structure (label_of part form)

abbrev pub owned_key : Plan → Owned → Key
owned_key plan o = key_of plan o.structure o.part o.fact.form

abbrev pub is_key : Key → Key → Bool
is_key (Seat p) (Seat q) = nat_eq p q
is_key (Seat p) (Bucket c) = false
is_key (Bucket b) (Seat q) = false
is_key (Bucket b) (Bucket c) = is_bucket b c
