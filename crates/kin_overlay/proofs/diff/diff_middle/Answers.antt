use Rattle.std.proofs.Common.{◌≡◌, sym, ap, ap₂, ◌∙◌, subst, arith, ℕ, ◌+◌, List, [], ◌∷◌, ◌++◌, length, take, drop}
use Rattle.std.proofs.lemmas.List.{append_assoc, length-append, take-append-drop, map-append}
use Rattle.kin_motion.specs.Edits.{Edit}
use Rattle.kin_overlay.specs.Diffs.{later}
use Rattle.kin_overlay.proofs.ApartLaws.{IsApart, apart-front, apart-stretch, front-strange, next-in, not-in-front}
use Rattle.kin_overlay.proofs.EditLaws.{same-front, more-front, led-more, fitting-more, something-goes}
use Rattle.kin_overlay.proofs.diff.diff_middle.Goals as goal

pub loop-old-preserved-then-alike-gt0 : goal.loop-old-preserved-then-alike-gt0
loop-old-preserved-then-alike-gt0 c =
    let i = c.loop-old.invariant in
    let old = c.loop-old.old.now in
    let new = c.loop-old.new.now in
    let n = c.alike-alike.result in
    let both = same-front old new n c.alike-alike.ensures.within_old c.alike-alike.ensures.within_new c.alike-alike.ensures.same in
    record {
      plain = i.plain;
      shifted = i.shifted;
      front = i.front ++ take n old;
      counted = length-append i.front (take n old) ∙ ap (λ (m : ℕ). m + length (take n old)) i.counted ∙ ap (λ (m : ℕ). c.loop-old.place + m) (ap length (sym c.split_at.ensures.front) ∙ c.split_at.ensures.front_len);
      led = i.led ∙ more-front i.front old c.split_at.result.1.now n c.split_at.ensures.back;
      to = ap (λ (l : List ℕ). (i.front ++ l) ++ c.split_at-then-alike-gt0.result.1.now) both ∙ sym (more-front i.front new c.split_at-then-alike-gt0.result.1.now n c.split_at-then-alike-gt0.ensures.back) ∙ i.to;
      fit = i.fit;
      apart = λ k.
          subst (λ (l : List ℕ). IsApart i.plain c.args.old.now l c.split_at-then-alike-gt0.result.1.now) (sym c.split_at.ensures.back)
          (subst (λ (l : List ℕ). IsApart i.plain c.args.old.now (drop n old) l) (sym c.split_at-then-alike-gt0.ensures.back)
          (apart-front i.plain c.args.old.now old new n c.alike-alike.ensures.within_old c.alike-alike.ensures.within_new c.alike-alike.ensures.same (i.apart k)));
    }

pub loop-old-smaller : goal.loop-old-smaller
loop-old-smaller c =
    let more = something-goes c.loop-old.old.now c.loop-old.new.now c.split_at-else-alike-gt0.result.1.now c.strangers.result c.added_before.result (c.is_done.ensures.more c.loop-old-test.true)
    (c.alike-alike.ensures.differ (omega (arith, c.if-alike-gt0.false))) c.strangers.ensures.next c.split_at-else-alike-gt0.ensures.back c.added_before.ensures.all c.added_before.ensures.at in
    omega (arith, more, c.split_at-else-alike-gt0.ensures.back_len, c.split_at-else-alike-gt0-2.ensures.back_len)

pub loop-old-preserved : goal.loop-old-preserved
loop-old-preserved c =
    let i = c.loop-old.invariant in
    let put = c.split_at-else-alike-gt0-2.result.0.now in
    let tail = c.split_at-else-alike-gt0-2.result.1.now in
    let gone = length c.split_at-else-alike-gt0.result.0.now in
    let rest : c.split_at-else-alike-gt0.result.1.now ≡ drop gone c.loop-old.old.now = c.split_at-else-alike-gt0.ensures.back ∙ ap (λ n. drop n c.loop-old.old.now) (sym c.split_at-else-alike-gt0.ensures.front_len) in
    let stretch : Edit = record { place = c.loop-old.place; drop = gone; put = put } in
    record {
      plain = i.plain ++ stretch ∷ [];
      shifted =
          c.in_ok-push.ensures.items ∙ ap₂ (λ (es : List Edit) (e : Edit). es ++ e ∷ []) i.shifted c.in_ok-edit.ensures ∙ sym (map-append (later c.args.start) i.plain (stretch ∷ []));
      front = i.front ++ put;
      counted = length-append i.front put ∙ ap (λ (n : ℕ). n + length put) i.counted;
      led = led-more i.plain c.args.old.now i.front c.loop-old.old.now put c.loop-old.place gone i.counted i.led c.split_at-else-alike-gt0.result.1.now rest;
      to = append_assoc i.front put tail ∙ ap (λ (l : List ℕ). i.front ++ l) (ap₂ (λ (f t : List ℕ). f ++ t) c.split_at-else-alike-gt0-2.ensures.front c.split_at-else-alike-gt0-2.ensures.back ∙ take-append-drop c.added_before.result c.loop-old.new.now) ∙ i.to;
      fit = fitting-more i.plain c.args.old.now i.front c.loop-old.old.now put c.loop-old.place gone i.counted i.led i.fit (omega (arith, c.split_at-else-alike-gt0.ensures.back_len, c.split_at-else-alike-gt0.ensures.front_len));
      apart = λ k.
          apart-stretch i.plain c.args.old.now c.loop-old.old.now c.loop-old.new.now i.front c.split_at-else-alike-gt0.result.1.now tail put c.loop-old.place gone c.added_before.result i.counted i.led rest
          c.split_at-else-alike-gt0-2.ensures.front c.split_at-else-alike-gt0-2.ensures.back (front-strange c.loop-old.old.now c.loop-old.new.now c.strangers.result gone c.split_at-else-alike-gt0.ensures.front_len c.strangers.ensures.strange)
          (λ x xs e. next-in c.loop-old.old.now c.loop-old.new.now c.split_at-else-alike-gt0.result.1.now c.strangers.result x xs c.split_at-else-alike-gt0.ensures.back e c.strangers.ensures.next)
          (λ x xs e. not-in-front c.loop-old.new.now c.added_before.result x (λ n y l at. c.added_before.ensures.others x y n xs e l at)) (i.apart k);
    }
