use Rattle.std.proofs.Common.{◌≡◌, sym, ap, ◌∙◌, subst, List, ℕ, Result, rules}
use Rattle.std.specs.Prelude.{OnOk}
use Rattle.std.proofs.lemmas.List.{nil_from_length}
use Rattle.std.proofs.lemmas.Result.{IfOk-weaker}
use Rattle.kin_motion.specs.Edits.{Edit, all_edited, AreFitting}
use Rattle.kin_motion.specs.Numbers.{IsOnce}
use Rattle.kin_overlay.specs.Diffs.{KeepOrder}
use Rattle.kin_overlay.specs.Reading.{IsReadAgain}
use Rattle.kin_overlay.specs.Remembered.{Remembered}
use Rattle.kin_overlay.specs.Walks.{chain_read}
use Rattle.kin_overlay.proofs.ShiftLaws.{renewed-lent}
use Rattle.kin_overlay.proofs.reading.renew.Goals as goal

-- what follows from what is so on `Ok`
by : {T E P Q : Type 0} (r : Result T E) → OnOk r P → (P → Q) → OnOk r Q
by {T} {E} {P} {Q} r h f = IfOk-weaker r (λ _. P) (λ _. Q) (λ _ p. f p) h

-- the chain itself is read again
again : (chain seen : List ℕ) (new old : Remembered) (given : List ℕ) (start end : ℕ) → seen ≡ chain → chain ≡ chain_read old → IsOnce chain → (seen ≡ chain_read old → IsOnce seen → IsReadAgain seen (chain_read new) given start end)
    → IsReadAgain chain (chain_read new) given start end
again chain seen new old given start end is read once k = subst (λ (l : List ℕ). IsReadAgain l (chain_read new) given start end) is (k (is ∙ read) (subst IsOnce (sym is) once))

pub read_again-requires : goal.read_again-requires
read_again-requires c = record { room = c.requires.read.2.new_room }

pub apply_all-requires : goal.apply_all-requires
apply_all-requires c =
    let chain = c.args.chain.now.items in
    let new = chain_read c.args.list.now in
    let given = c.read_again.new.given.items in
    let start = c.in_ok-middle.middle.start in
    let end = c.in_ok-middle.middle.end in
    let d = c.in_ok-diff_middle.ensures in
    let k = again chain c.as_slice.result.now c.args.list.now c.requires.read.0 given start end c.as_slice.ensures c.requires.read.1 c.requires.once (c.in_ok-middle.ensures c.requires.read.0 c.requires.read.2) in
    let done = renewed-lent start end chain new given c.as_slice-2.result.now c.deref.result.now d.0 c.diff_middle.new.edits.items k c.as_slice-2.ensures c.deref.ensures.value d.1 d.2 in
    record { fit = subst (λ (es : List Edit). AreFitting es chain) (sym c.deref-2.ensures.value) done.1 }

pub returns-clause-fit : goal.returns-clause-fit
returns-clause-fit c =
    let chain = c.args.chain.now.items in
    let new = chain_read c.args.list.now in
    let given = c.read_again.new.given.items in
    let start = c.in_ok-middle.middle.start in
    let end = c.in_ok-middle.middle.end in
    let d = c.in_ok-diff_middle.ensures in
    let k = again chain c.as_slice.result.now c.args.list.now c.requires.read.0 given start end c.as_slice.ensures c.requires.read.1 c.requires.once (c.in_ok-middle.ensures c.requires.read.0 c.requires.read.2) in
    let done = renewed-lent start end chain new given c.as_slice-2.result.now c.deref.result.now d.0 c.diff_middle.new.edits.items k c.as_slice-2.ensures c.deref.ensures.value d.1 d.2 in
    by c.apply_all.result c.apply_all.ensures (λ put. done.1)

pub returns-clause-read : goal.returns-clause-read
returns-clause-read c =
    let chain = c.args.chain.now.items in
    let new = chain_read c.args.list.now in
    let given = c.read_again.new.given.items in
    let start = c.in_ok-middle.middle.start in
    let end = c.in_ok-middle.middle.end in
    let d = c.in_ok-diff_middle.ensures in
    let k = again chain c.as_slice.result.now c.args.list.now c.requires.read.0 given start end c.as_slice.ensures c.requires.read.1 c.requires.once (c.in_ok-middle.ensures c.requires.read.0 c.requires.read.2) in
    let done = renewed-lent start end chain new given c.as_slice-2.result.now c.deref.result.now d.0 c.diff_middle.new.edits.items k c.as_slice-2.ensures c.deref.ensures.value d.1 d.2 in
    let seen = ap (λ (es : List Edit). all_edited es chain) c.deref-2.ensures.value in
    by c.apply_all.result c.apply_all.ensures (λ put. put ∙ seen ∙ done.0)

pub returns-clause-lead : goal.returns-clause-lead
returns-clause-lead c =
    let chain = c.args.chain.now.items in
    let new = chain_read c.args.list.now in
    let given = c.read_again.new.given.items in
    let start = c.in_ok-middle.middle.start in
    let end = c.in_ok-middle.middle.end in
    let d = c.in_ok-diff_middle.ensures in
    let k = again chain c.as_slice.result.now c.args.list.now c.requires.read.0 given start end c.as_slice.ensures c.requires.read.1 c.requires.once (c.in_ok-middle.ensures c.requires.read.0 c.requires.read.2) in
    let done = renewed-lent start end chain new given c.as_slice-2.result.now c.deref.result.now d.0 c.diff_middle.new.edits.items k c.as_slice-2.ensures c.deref.ensures.value d.1 d.2 in
    let seen = ap (λ (es : List Edit). all_edited es chain) c.deref-2.ensures.value in
    by c.apply_all.result c.apply_all.ensures (λ put. sym (put ∙ seen))

pub returns-clause-apart : goal.returns-clause-apart
returns-clause-apart c =
    let chain = c.args.chain.now.items in
    let new = chain_read c.args.list.now in
    let given = c.read_again.new.given.items in
    let start = c.in_ok-middle.middle.start in
    let end = c.in_ok-middle.middle.end in
    let d = c.in_ok-diff_middle.ensures in
    let k = again chain c.as_slice.result.now c.args.list.now c.requires.read.0 given start end c.as_slice.ensures c.requires.read.1 c.requires.once (c.in_ok-middle.ensures c.requires.read.0 c.requires.read.2) in
    let done = renewed-lent start end chain new given c.as_slice-2.result.now c.deref.result.now d.0 c.diff_middle.new.edits.items k c.as_slice-2.ensures c.deref.ensures.value d.1 d.2 in
    let seen = ap (λ (es : List Edit). all_edited es chain) c.deref-2.ensures.value in
    by c.apply_all.result c.apply_all.ensures (λ put order. done.2 (subst (KeepOrder chain) (put ∙ seen ∙ done.0) order))

-- without edits the chain is the new one
pub returns-then-is_empty-clause-read : goal.returns-then-is_empty-clause-read
returns-then-is_empty-clause-read c =
    let chain = c.args.chain.now.items in
    let new = chain_read c.args.list.now in
    let given = c.read_again.new.given.items in
    let start = c.in_ok-middle.middle.start in
    let end = c.in_ok-middle.middle.end in
    let d = c.in_ok-diff_middle.ensures in
    let k = again chain c.as_slice.result.now c.args.list.now c.requires.read.0 given start end c.as_slice.ensures c.requires.read.1 c.requires.once (c.in_ok-middle.ensures c.requires.read.0 c.requires.read.2) in
    let done = renewed-lent start end chain new given c.as_slice-2.result.now c.deref.result.now d.0 c.diff_middle.new.edits.items k c.as_slice-2.ensures c.deref.ensures.value d.1 d.2 in
    let none = nil_from_length c.diff_middle.new.edits.items (search rules) in
    subst (λ (es : List Edit). all_edited es chain ≡ new) none done.0
