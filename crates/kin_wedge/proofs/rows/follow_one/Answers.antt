use Rattle.std.proofs.Common.{◌≡◌, ◌∙◌, sym, ap, subst, arith, suc, ◌+◌, ◌<◌, ◌≤◌, length, ℕ, List, add-one, get_or, Some, Option}
use Rattle.std.specs.Prelude.{slice_get}
use Rattle.std.proofs.lemmas.Option.{same_Some}
use Rattle.kin_list.proofs.RowLaws.{exchange-is_swap}
use Rattle.kin_wedge.specs.declared.touch.Touch.{Touch}
use Rattle.kin_wedge.specs.Seen.{rows_of}
use Rattle.kin_wedge.specs.Touched.{HasOfferedBoth}
use Rattle.kin_wedge.proofs.Following.{past_end, none_past, neighbours_apart, read_member, read_there}
use Rattle.kin_wedge.proofs.rows.follow_one.Goals as goal

-- the two numbers at the places that are read
offered_there : (rows : List (List ℕ)) (candidates : List (Option ℕ)) (part : ℕ) (xs : List ℕ) (p x y : ℕ) (ts : List Touch) → p + 1 < length xs → x ≡ get_or xs p x → y ≡ get_or xs (p + 1) y → HasOfferedBoth rows candidates part x y ts
    → (a b : ℕ) → slice_get xs p ≡ Some a → slice_get xs (suc p) ≡ Some b → HasOfferedBoth rows candidates part a b ts
offered_there rows candidates part xs p x y ts l e f h a b k m =
    let s : x ≡ a = same_Some x a (sym (read_there xs p x (omega (arith, l)) e) ∙ k) in
    let t : y ≡ b = same_Some y b (sym (read_there xs (p + 1) y l f) ∙ ap (slice_get xs) (add-one p) ∙ m) in
    subst (λ (z : ℕ). HasOfferedBoth rows candidates part a z ts) t (subst (λ (z : ℕ). HasOfferedBoth rows candidates part z y ts) s h)

pub returns-then-place-len-clause-row : goal.returns-then-place-len-clause-row
returns-then-place-len-clause-row c = past_end c.args.place c.args.row.now.items (subst (λ (n : ℕ). n ≤ c.args.place + 1) (c.len.ensures ∙ c.args.row.now.ok.0) c.if-place-len.true)

pub returns-then-place-len-clause-offered : goal.returns-then-place-len-clause-offered
returns-then-place-len-clause-offered c = λ a b h k. none_past c.args.place b c.args.row.now.items (subst (λ (n : ℕ). n ≤ c.args.place + 1) (c.len.ensures ∙ c.args.row.now.ok.0) c.if-place-len.true) k

pub add_exchange-requires-clause-a : goal.add_exchange-requires-clause-a
add_exchange-requires-clause-a c =
    let l = (subst (λ (n : ℕ). c.args.place + 1 < n) (c.len.ensures ∙ c.args.row.now.ok.0) c.if-place-len.false) in
    c.requires.still_there c.index.result.now (read_member c.args.row.now.items c.args.place c.index.result.now (omega (arith, l)) c.index.ensures)

pub add_exchange-requires-clause-b : goal.add_exchange-requires-clause-b
add_exchange-requires-clause-b c =
    c.requires.still_there c.index-2.result.now (read_member c.args.row.now.items (c.args.place + 1) c.index-2.result.now (subst (λ (n : ℕ). c.args.place + 1 < n) (c.len.ensures ∙ c.args.row.now.ok.0) c.if-place-len.false) c.index-2.ensures)

pub returns-clause-row : goal.returns-clause-row
returns-clause-row c = c.swap.ensures.items ∙ exchange-is_swap c.args.place c.args.row.now.items (subst (λ (n : ℕ). c.args.place + 1 < n) (c.len.ensures ∙ c.args.row.now.ok.0) c.if-place-len.false)

pub returns-clause-offered : goal.returns-clause-offered
returns-clause-offered c =
    offered_there (rows_of c.args.orders.now.lists.items) c.args.table.now c.args.part c.args.row.now.items c.args.place c.index.result.now c.index-2.result.now c.add_exchange.new.self.all.items (subst (λ (n : ℕ). c.args.place + 1 < n) (c.len.ensures ∙ c.args.row.now.ok.0) c.if-place-len.false) c.index.ensures c.index-2.ensures c.in_ok-add_exchange.ensures.offered

pub add_exchange-requires-clause-apart : goal.add_exchange-requires-clause-apart
add_exchange-requires-clause-apart c =
    let l = (subst (λ (n : ℕ). c.args.place + 1 < n) (c.len.ensures ∙ c.args.row.now.ok.0) c.if-place-len.false) in
    neighbours_apart c.args.row.now.items c.args.place c.index.result.now c.index-2.result.now c.requires.once (read_there c.args.row.now.items c.args.place c.index.result.now (omega (arith, l)) c.index.ensures)
    (ap (slice_get c.args.row.now.items) (sym (add-one c.args.place)) ∙ read_there c.args.row.now.items (c.args.place + 1) c.index-2.result.now l c.index-2.ensures)
