use Rattle.std.proofs.Common.{sym, arith, ◌≡◌, ◌∙◌, ◌-◌, ap, take, drop, length, rules}
use Rattle.std.proofs.lemmas.List.{take_rest}
use Rattle.kin_io.proofs.Written.{parts_of_rest, nothing_left}
use Rattle.kin_io.proofs.memory.MemSourceSource.read.Goals as goal

pub returns-then-not-is_empty-2-clause-bytes : goal.returns-then-not-is_empty-2-clause-bytes
returns-then-not-is_empty-2-clause-bytes c =
    let k = c.give-count.result in
    let g = c.self.inside.given in
    let bytes = c.self.inside.bytes.items in
    let from : take (length c.deref.result.now - g) (drop g c.deref.result.now) ≡ drop g bytes = take_rest c.deref.result.now g ∙ ap (drop g) c.deref.ensures.value in (
      sym (ap (λ s. s.left) c.self.view_is) ∙ parts_of_rest g k bytes (take k c.give-count.new.to) (c.give-count.ensures.given ∙ ap (take k) from),
      λ none some. nothing_left g k bytes (let count = c.give-count.ensures.count in let piece = c.self.invariant.1 in omega (arith, none, some, count, piece, ap length from)),
    )

pub returns-then-failed-clause-bytes : goal.returns-then-failed-clause-bytes
returns-then-failed-clause-bytes c = search rules

pub returns-then-not-is_empty-2-clause-end : goal.returns-then-not-is_empty-2-clause-end
returns-then-not-is_empty-2-clause-end c = search rules
