use Rattle.std.proofs.Common.{◌≡◌, inr, sym, ap, ◌∙◌, List, [], ◌++◌, ℕ, false, get_or}
use Rattle.std.proofs.lemmas.Bool.{eqb-true}
use Rattle.std.proofs.lemmas.List.{append-nil, nil_from_length}
use Rattle.kin_motion.specs.Numbers.{is_in}
use Rattle.kin_overlay.specs.declared.draft.Draft.{Draft}
use Rattle.kin_overlay.specs.Seen.{half_of}
use Rattle.kin_overlay.proofs.SketchLaws.{drawn-none}
use Rattle.kin_overlay.proofs.TraceLaws.{put-none, after-none}
use Rattle.kin_overlay.proofs.sketch.draw_put.Goals as goal

-- none of the numbers was put
unput : (put : List ℕ) (x : ℕ) → put ≡ [] → is_in x put ≡ false
unput put x none = ap (is_in x) none

pub returns-then-is_empty-clause-drawn : goal.returns-then-is_empty-clause-drawn
returns-then-is_empty-clause-drawn c = λ w. drawn-none w (half_of c.args.half) c.args.chain.now c.args.out.now.items

pub returns-then-is_empty-clause-rest : goal.returns-then-is_empty-clause-rest
returns-then-is_empty-clause-rest c =
    let put = c.args.put.now in
    let chain = c.args.chain.now in
    let none = nil_from_length put (eqb-true _ 0 (sym c.is_empty.ensures ∙ c.if-is_empty.true)) in
    sym (after-none put chain (inr (unput put (get_or chain 0 0) none)))

pub returns-then-is_empty-clause-pushed : goal.returns-then-is_empty-clause-pushed
returns-then-is_empty-clause-pushed c =
    let put = c.args.put.now in
    let chain = c.args.chain.now in
    let out = c.args.out.now.items in
    let none = nil_from_length put (eqb-true _ 0 (sym c.is_empty.ensures ∙ c.if-is_empty.true)) in
    sym (append-nil out) ∙ ap (λ (l : List Draft). out ++ l) (sym (put-none c.args.half put chain (inr (unput put (get_or chain 0 0) none))))
