-- The journal on the way to an instant, block by block, as a claim begins with it or not.
use Rattle.std.proofs.Common.{◌≡◌, ◌≢◌, refl, sym, ap, ◌∙◌, subst, Bool, true, false, List, [], ◌∷◌, ◌++◌, ℕ, append_assoc, append-nil}
use Rattle.std.specs.Prelude.{None, Some}
use Rattle.std.proofs.lemmas.List.{append_cancel_left}
use Rattle.std.proofs.lemmas.List.Concat.{flat_map-append}
use Rattle.kin_num.specs.declared.instant.Moment.{Moment}
use Rattle.kin_num.specs.declared.instant.Shape.{Shape}
use Rattle.kin_num.specs.Canonical.{IsCanonical}
use Rattle.kin_num.specs.Order.{IsEarlier}
use Rattle.kin_motion.specs.Journal.{Block, IsJournal}
use Rattle.kin_motion.specs.Turning.{just_at}
use Rattle.kin_script.specs.PrintedJournal.{block_lines, journal_lines}
use Rattle.kin_script.specs.States.{State, state_setting}
use Rattle.kin_script.specs.Text.{IsPassedText}
use Rattle.kin_status.proofs.Passing.{ArePassed, behind_block}
use Rattle.kin_check.specs.Blocks.{IsNextBlockBy}
use Rattle.kin_check.specs.Matches.{IsMatchOf}

module _ (s : State) (asked : Shape) where
  -- the bytes begin with the lines of the blocks up to now, and these are left
  pub record IsPassing (before : List ℕ) (now : Moment) (left : List ℕ) : Type 0 where
    pub canonical : IsCanonical now.at
    pub in_time : ¬ (IsEarlier (just_at asked) now)
    pub blocks : List Block
    pub passed : ArePassed (state_setting s) s.moment now (just_at asked) blocks
    pub taken : before ≡ journal_lines blocks ++ left

  pub sets_out : (before : List ℕ) → IsCanonical s.moment.at → ¬ (IsEarlier (just_at asked) s.moment) → IsPassing before s.moment before
  sets_out before here in_time = record { canonical = here; in_time = in_time; blocks = []; passed = record { forth = λ more j. j; back = λ all j. (all, j, refl) }; taken = refl }

  module _ (there : IsCanonical asked) {before : List ℕ} {now : Moment} {left : List ℕ} (p : IsPassing before now left) where
    -- nothing more fails
    pub all_taken : IsNextBlockBy s now (just_at asked) None → IsMatchOf (IsPassedText true s asked) true before left
    all_taken none =
        let all : IsJournal (state_setting s) s.moment (just_at asked) p.blocks =
        subst (λ (bs : List Block). IsJournal (state_setting s) s.moment (just_at asked) bs) (append-nil p.blocks) (p.passed.forth [] none) in
        (journal_lines p.blocks, (p.blocks, all, refl), p.taken)

    module _ (b : Block) (next : IsNextBlockBy s now (just_at asked) (Some b)) where
      -- a block is taken away
      pub block_taken : (less : List ℕ) → left ≡ block_lines b ++ less → IsPassing before b.moment less
      block_taken less e = record {
        canonical = next.0.canonical;
        in_time = next.1;
        blocks = p.blocks ++ b ∷ [];
        passed = record {
          forth = λ more j. subst (IsJournal (state_setting s) s.moment (just_at asked)) (sym (append_assoc p.blocks (b ∷ []) more)) (p.passed.forth (b ∷ more) (next.0, next.1, j));
          back = λ all j.
              let x = p.passed.back all j in
              let y = behind_block (state_setting s) now (just_at asked) b p.canonical there next.0 next.1 x.0 x.1 in
              (y.0, y.1, x.2 ∙ ap (λ (more : List Block). p.blocks ++ more) y.2 ∙ sym (append_assoc p.blocks (b ∷ []) y.0));
        };
        taken =
            p.taken ∙ ap (λ (w : List ℕ). journal_lines p.blocks ++ w) (e ∙ ap (λ (w : List ℕ). w ++ less) (sym (append-nil (block_lines b))))
            ∙ sym (append_assoc (journal_lines p.blocks) (journal_lines (b ∷ [])) less)
            ∙ ap (λ (w : List ℕ). w ++ less) (sym (flat_map-append block_lines p.blocks (b ∷ [])));
      }

      -- what is left begins otherwise
      pub block_differs : ((rest : List ℕ) → left ≢ block_lines b ++ rest) → (text rest : List ℕ) → IsPassedText true s asked text → before ≢ text ++ rest
      block_differs differs text rest is e =
          let x = p.passed.back is.0 is.1 in
          let y = behind_block (state_setting s) now (just_at asked) b p.canonical there next.0 next.1 x.0 x.1 in
          let lines : text ≡ journal_lines p.blocks ++ (block_lines b ++ journal_lines y.0) =
          is.2 ∙ ap journal_lines (x.2 ∙ ap (λ (more : List Block). p.blocks ++ more) y.2) ∙ flat_map-append block_lines p.blocks (b ∷ y.0) in
          let whole : journal_lines p.blocks ++ left ≡ journal_lines p.blocks ++ (block_lines b ++ (journal_lines y.0 ++ rest)) =
          sym p.taken ∙ e ∙ ap (λ (w : List ℕ). w ++ rest) lines ∙ append_assoc (journal_lines p.blocks) (block_lines b ++ journal_lines y.0) rest
          ∙ ap (λ (w : List ℕ). journal_lines p.blocks ++ w) (append_assoc (block_lines b) (journal_lines y.0) rest) in
          differs (journal_lines y.0 ++ rest) (append_cancel_left (journal_lines p.blocks) left (block_lines b ++ (journal_lines y.0 ++ rest)) whole)

-- where the journal is off, nothing is printed on the way
pub off_taken : (s : State) (asked : Shape) (before : List ℕ) → s.journal ≡ false → IsMatchOf (IsPassedText s.journal s asked) true before before
off_taken s asked before off = ([], subst (λ (b : Bool). IsPassedText b s asked []) (sym off) refl, refl)
