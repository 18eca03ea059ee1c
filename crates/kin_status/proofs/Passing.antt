-- The blocks passed so far, and those that are still to come: what `at` and `next` print is one, and so is what is said of what comes next.
use Rattle.std.proofs.Common.{◌≡◌, ℕ, Bool, true, false, List, [], ◌∷◌, ◌++◌, refl, sym, ap, ◌∙◌, subst, map, flat_map, append-nil}
use Rattle.std.proofs.lemmas.List.Concat.{flat_map-append}
use Rattle.std.proofs.lemmas.List.Folds.{flat_map-map}
use Rattle.kin_status.proofs.Vocabulary.{IsCanonical, IsEarlier, Moment, Shape, Block, IsJournal, IsNextBlock, Setting, block_is_listed, journal_is_one, next_block_is_one, Next, IsNext, failure_of, block_lines, failure_line, journal_lines, State, just_at, state_setting, state_view}
use Rattle.kin_status.proofs.Vocabulary.{IsNextText, IsPassedText, next_lines, IsFrontOfEach, printed_if}
use Rattle.kin_fail.specs.declared.owned.Failure.{Failure as Failed}
use Rattle.kin_num.proofs.MomentOrder.{not_earlier_itself, earlier_trans}
use Rattle.kin_legs.proofs.NextLaws.{one_next as one_comes}

pub one_passed : (on : Bool) (s : State) (w : Shape) (x y : List ℕ) → IsCanonical s.moment.at → IsCanonical w → IsPassedText on s w x → IsPassedText on s w y → x ≡ y
one_passed false s w x y now asked p q = p ∙ sym q
one_passed true s w x y now asked p q = p.2 ∙ ap journal_lines (journal_is_one (state_setting s) s.moment (just_at w) p.0 q.0 now asked p.1 q.1) ∙ sym q.2

-- what is later is not earlier
pub not_back : (now m : Moment) → IsCanonical now.at → IsCanonical m.at → IsEarlier now m → ¬ (IsEarlier m now)
not_back now m here there later e = not_earlier_itself now (earlier_trans now m now here.form there.form here.form later e)

-- what is said of what comes next
abbrev Tells : {A : Type 0} → State → (Next → A) → A → Type 0
Tells s of_next x = (n : Next) × IsNext (state_view s) n × (x ≡ of_next n)

pub one_told : {A : Type 0} (s : State) (of_next : Next → A) (x y : A) → IsCanonical s.moment.at → Tells s of_next x → Tells s of_next y → x ≡ y
one_told s of_next x y canonical p q = p.2 ∙ ap of_next (one_comes (state_view s) p.0 q.0 canonical p.1 q.1) ∙ sym q.2

pub one_next : (s : State) (x y : List ℕ) → IsCanonical s.moment.at → IsNextText s x → IsNextText s y → x ≡ y
one_next s x y canonical p q = one_told s (next_lines s.journal) x y canonical p q

-- From start, the journal up to the last moment is these blocks, and then the journal from now.
pub record ArePassed (t : Setting) (start now last : Moment) (bs : List Block) : Type 0 where
  pub forth : (more : List Block) → IsJournal t now last more → IsJournal t start last (bs ++ more)
  pub back : (all : List Block) → IsJournal t start last all → (more : List Block) × IsJournal t now last more × (all ≡ bs ++ more)

-- the journal from a moment begins with the next block
pub behind_block : (t : Setting) (now last : Moment) (b : Block) → IsCanonical now.at → IsCanonical last.at → IsNextBlock t now b → ¬ (IsEarlier last b.moment)
    → (all : List Block) → IsJournal t now last all → (more : List Block) × IsJournal t b.moment last more × (all ≡ b ∷ more)
behind_block t now last b here there next within [] j = absurd (block_is_listed t now last b here there next within j)
behind_block t now last b here there next within (c ∷ more) j =
    let same : c ≡ b = next_block_is_one t now c b here j.0 next in
    (more, subst (λ (d : Block). IsJournal t d.moment last more) same j.2, ap (λ (d : Block). d ∷ more) same)

-- the lines of blocks where the journal is on
abbrev pub lines_if : Bool → List Block → List ℕ
lines_if false bs = []
lines_if true bs = journal_lines bs

pub lines_behind : (journal : Bool) (bs : List Block) (b : Block) → lines_if journal (bs ++ b ∷ []) ≡ lines_if journal bs ++ printed_if journal b
lines_behind false bs b = refl
lines_behind true bs b = flat_map-append block_lines bs (b ∷ []) ∙ ap (λ (w : List ℕ). journal_lines bs ++ w) (append-nil (block_lines b))

pub is_text : (journal : Bool) (s : State) (w : Shape) (bs : List Block) → IsJournal (state_setting s) s.moment (just_at w) bs → IsPassedText journal s w (lines_if journal bs)
is_text false s w bs j = refl
is_text true s w bs j = (bs, j, refl)

-- what was printed on the way is a front of all that there is to print
pub cut_on_the_way : (journal : Bool) (s : State) (now : Moment) (w : Shape) (bs : List Block)
    → ArePassed (state_setting s) s.moment now (just_at w) bs → IsFrontOfEach (IsPassedText journal s w) (lines_if journal bs)
cut_on_the_way false s now w bs p text e = record { more = []; joined = e }
cut_on_the_way true s now w bs p text e =
    let x = p.back e.0 e.1 in
    record { more = journal_lines x.0; joined = e.2 ∙ ap journal_lines x.2 ∙ flat_map-append block_lines bs x.0 }

-- the line of a failure, and the lines of several
abbrev pub line_in : Moment → Failed → List ℕ
line_in m f = failure_line m (failure_of f)

pub lines_in : (m : Moment) (fs gs : List Failed) (b : Block) → fs ≡ gs → record { moment = m; failures = map failure_of gs } ≡ b → flat_map (line_in m) fs ≡ block_lines b
lines_in m fs gs b same is = sym (flat_map-map (failure_line m) failure_of fs) ∙ ap (λ (hs : List Failed). flat_map (failure_line m) (map failure_of hs)) same ∙ ap block_lines is
