use Rattle.std.proofs.Common.{◌≡◌, sym, ap, ◌∙◌, subst, List, [], ◌∷◌, ◌++◌}
use Rattle.std.proofs.lemmas.List.{append-nil, map-append}
use Rattle.kin_motion.specs.Numbers.{is_in, IsOnce}
use Rattle.kin_overlay.specs.declared.record.Record.{Record}
use Rattle.kin_overlay.specs.Remembered.{Remembered, left_points}
use Rattle.kin_overlay.specs.Sketches.{IsFit, AreFit}
use Rattle.kin_overlay.specs.Spans.{drafts}
use Rattle.kin_overlay.proofs.FillLaws.{once-front}
use Rattle.kin_overlay.proofs.TakenOverLaws.{once-left, last-fit}
use Rattle.kin_overlay.proofs.list.BreakpointList.take_front.Goals as goal

-- the left points of those in front
once : (front others : List Record) (last : Record) → front ≡ others ++ last ∷ [] → IsOnce (left_points front) → IsOnce (left_points others ++ last.at.left ∷ [])
once front others last is o = subst IsOnce (ap left_points is ∙ map-append (λ (r : Record). r.at.left) others (last ∷ [])) o

pub take-requires : goal.take-requires
take-requires g c =
    let others = c.in-Some.others.now in
    let last = c.in-Some.last.now in
    record {
      new = subst (λ (l : List Record). IsOnce (left_points (l ++ others))) (sym c.requires.empty) (once-left (left_points others) (last.at.left ∷ []) (once c.args.front.now others last c.in-Some.ensures.cases.0 c.requires.once));
    }

pub next_of-next-requires-clause-fit : goal.next_of-next-requires-clause-fit
next_of-next-requires-clause-fit g c =
    let s = g.O.Signs.scene c.args.now.now in
    let others = c.in-Some.others.now in
    let last = c.in-Some.last.now in
    let fit = subst (λ (l : List Record). AreFit s (drafts l)) c.in-Some.ensures.cases.0 c.requires.fit in
    subst (IsFit s) (sym c.by.ensures) (last-fit s others last [] (subst (AreFit s) (sym (append-nil (drafts (others ++ last ∷ [])))) fit))

pub push-requires : goal.push-requires
push-requires g c =
    let others = c.in-Some.others.now in
    let last = c.in-Some.last.now in
    let records = ap (λ (m : Remembered). m.records) c.in_ok-take.ensures.taken ∙ ap (λ (l : List Record). l ++ others) c.requires.empty in
    record {
      new = ap (λ (l : List Record). is_in last.at.left (left_points l)) records ∙ once-front (left_points others) last.at.left [] (once c.args.front.now others last c.in-Some.ensures.cases.0 c.requires.once);
    }
