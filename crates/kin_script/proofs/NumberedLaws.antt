-- The line numbers of a script rise, and there are no more lines than bytes.
use Rattle.std.proofs.Common.{◌≡◌, ℕ, suc, ◌+◌, ◌≤◌, ◌<◌, Bool, true, false, cond, List, [], ◌∷◌, length, Option, Some, None, Result, Ok, Err, refl, subst, arith}
use Rattle.std.specs.Prelude.{All, AllPairs, unwrap_or}
use Rattle.std.specs.List.{slice_split, onto_first}
use Rattle.std.proofs.lemmas.List.Elements.{All-nil, All-cons, All-weaker}
use Rattle.std.proofs.lemmas.List.Kept.{AllPairs-cons}
use Rattle.kin_script.specs.declared.command.Command.{Command}
use Rattle.kin_script.specs.declared.line.HeaderLine.{HeaderLine}
use Rattle.kin_script.specs.declared.script.Script.{Script}
use Rattle.kin_script.specs.Lines.{is_line_feed, without_empty_end, lines_of, words_of, is_nil}
use Rattle.kin_script.specs.Left.{Numbered, numbered}
use Rattle.kin_script.specs.Commands.{command_of, size_of, header_line_of}
use Rattle.kin_script.specs.Grammar.{◌>>◌, at_line, by_header_line, Header, commands_of, with_commands, with_header_line, behind_size, script_of_lines, script_of}

-- the numbers are from low on and below high, and they rise
abbrev pub Rises : {A : Type 0} → ℕ → ℕ → List (ℕ × A) → Type 0
Rises low high [] = Unit {0}
Rises low high (l ∷ ls) = (low ≤ l.0) × (l.0 < high) × Rises (l.0 + 1) high ls

pub wider : {A : Type 0} (low lower high : ℕ) (ls : List (ℕ × A)) → lower ≤ low → Rises low high ls → Rises lower high ls
wider low lower high [] le r = tt
wider low lower high (l ∷ ls) le r = (omega arith, r.1, r.2)

-- ---- the lines that have words

pub numbered-rises : (n high : ℕ) (lines : List (List ℕ)) → n + length lines ≤ high → Rises n high (numbered n lines)
unfolding numbered
numbered-rises n high [] fits = tt
numbered-rises n high (line ∷ lines) fits = at (is_nil (words_of line)) (numbered-rises (n + 1) high lines (omega arith))
  where
    at : (b : Bool) → Rises (n + 1) high (numbered (n + 1) lines) → Rises n high (cond b (numbered (n + 1) lines) ((n, words_of line) ∷ numbered (n + 1) lines))
    at true rest = wider (n + 1) n high (numbered (n + 1) lines) (omega arith) rest
    at false rest = (omega arith, omega arith, rest)

-- ---- their commands

abbrev Commands : Type 0
Commands = List (ℕ × Command)

commands-rise : (size low high : ℕ) (ls : List Numbered) (cs : Commands) → commands_of size ls ≡ Ok cs → Rises low high ls → Rises low high cs
unfolding commands_of
commands-rise size low high [] cs e r = let none : [] ≡ cs = cc in subst (λ (xs : Commands). Rises low high xs) none tt
commands-rise size low high (l ∷ ls) cs e r = at (command_of size l.1) e (λ ds q. commands-rise size (l.0 + 1) high ls ds q r.2)
  where
    behind : (c : Command) (read : Result Commands ℕ) → commands_of size ls ≡ read → (read >> λ ds. Ok ((l.0, c) ∷ ds)) ≡ Ok cs
        → ((ds : Commands) → commands_of size ls ≡ Ok ds → Rises (l.0 + 1) high ds) → Rises low high cs
    behind c (Err n) q e rest = absurd cc
    behind c (Ok ds) q e rest =
        let these : (l.0, c) ∷ ds ≡ cs = cc in
        subst (λ (xs : Commands). Rises low high xs) these (r.0, r.1, rest ds q)

    at : (o : Option Command) → (at_line l.0 o >> λ c. commands_of size ls >> λ ds. Ok ((l.0, c) ∷ ds)) ≡ Ok cs
        → ((ds : Commands) → commands_of size ls ≡ Ok ds → Rises (l.0 + 1) high ds) → Rises low high cs
    at None e rest = absurd cc
    at (Some c) e rest = behind c (commands_of size ls) refl e rest

with_commands-rise : (h : Header) (low high : ℕ) (ls : List Numbered) (s : Script) → with_commands h ls ≡ Ok s → Rises low high ls → Rises low high s.lines
with_commands-rise h low high ls s e r = at (commands_of h.size ls) refl e
  where
    at : (read : Result Commands ℕ) → commands_of h.size ls ≡ read → (read >> λ cs. Ok (record { size = h.size; keeps = h.keeps; journal = unwrap_or h.journal false; lines = cs })) ≡ Ok s → Rises low high s.lines
    at (Err n) q e = absurd cc
    at (Ok cs) q e =
        let these : record { size = h.size; keeps = h.keeps; journal = unwrap_or h.journal false; lines = cs } ≡ s = cc in
        subst (λ (t : Script). Rises low high t.lines) these (commands-rise h.size low high ls cs q r)

-- ---- the whole script

behind_size-rises : (h : Header) (low high : ℕ) (ls : List Numbered) (s : Script) → behind_size h ls ≡ Ok s → Rises low high ls → Rises low high s.lines
unfolding behind_size
behind_size-rises h low high [] s e r = with_commands-rise h low high [] s e r
behind_size-rises h low high (l ∷ ls) s e r =
    at (header_line_of l.1) e (λ g q. wider (l.0 + 1) low high s.lines (omega arith) (behind_size-rises g (l.0 + 1) high ls s q r.2))
  where
    sets : (o : Option Header) → (at_line l.0 o >> λ g. behind_size g ls) ≡ Ok s → ((g : Header) → behind_size g ls ≡ Ok s → Rises low high s.lines) → Rises low high s.lines
    sets None e rest = absurd cc
    sets (Some g) e rest = rest g e

    at : (o : Option HeaderLine) → by_header_line o (λ x. at_line l.0 (with_header_line h x) >> λ g. behind_size g ls) (with_commands h (l ∷ ls)) ≡ Ok s
        → ((g : Header) → behind_size g ls ≡ Ok s → Rises low high s.lines) → Rises low high s.lines
    at None e rest = with_commands-rise h low high (l ∷ ls) s e r
    at (Some x) e rest = sets (with_header_line h x) e rest

script_of_lines-rises : (after high : ℕ) (ls : List Numbered) (s : Script) → script_of_lines after ls ≡ Ok s → Rises 1 high ls → Rises 2 high s.lines
unfolding script_of_lines
script_of_lines-rises after high [] s e r = absurd cc
script_of_lines-rises after high (l ∷ ls) s e r = at (size_of l.1) e
  where
    at : (o : Option ℕ) → (at_line l.0 o >> λ size. behind_size (record { size = size; keeps = []; journal = None }) ls) ≡ Ok s → Rises 2 high s.lines
    at None e = absurd cc
    at (Some size) e = wider (l.0 + 1) 2 high s.lines (omega arith) (behind_size-rises (record { size = size; keeps = []; journal = None }) (l.0 + 1) high ls s e r.2)

-- ---- no more lines than bytes

joined : (b : ℕ) (bs : List ℕ) (ps : List (List ℕ)) → length (without_empty_end ps) ≤ length bs → length (without_empty_end (onto_first b ps)) ≤ suc (length bs)
joined b bs [] le = omega arith
joined b bs (p ∷ []) le = omega arith
joined b bs ([] ∷ q ∷ ps) le = omega arith
joined b bs ((c ∷ cs) ∷ q ∷ ps) le = omega arith

one_more : (bs : List ℕ) (ps : List (List ℕ)) → length (without_empty_end ps) ≤ length bs → length (without_empty_end ([] ∷ ps)) ≤ suc (length bs)
one_more bs [] le = omega arith
one_more bs (p ∷ ps) le = omega arith

few_pieces : (bs : List ℕ) → length (without_empty_end (slice_split is_line_feed bs)) ≤ length bs
few_pieces [] = omega arith
few_pieces (b ∷ bs) = at (is_line_feed b) (few_pieces bs)
  where
    at : (t : Bool) → length (without_empty_end (slice_split is_line_feed bs)) ≤ length bs
        → length (without_empty_end (cond t ([] ∷ slice_split is_line_feed bs) (onto_first b (slice_split is_line_feed bs)))) ≤ suc (length bs)
    at true le = one_more bs (slice_split is_line_feed bs) le
    at false le = joined b bs (slice_split is_line_feed bs) le

few_lines : (bs : List ℕ) → length (lines_of bs) ≤ length bs
unfolding lines_of
few_lines bs = few_pieces bs

pub script_of-rises : (bytes : List ℕ) (s : Script) → script_of bytes ≡ Ok s → Rises 2 (1 + length bytes) s.lines
unfolding script_of
script_of-rises bytes s e =
    let few = few_lines bytes in
    script_of_lines-rises (1 + length (lines_of bytes)) (1 + length bytes) (numbered 1 (lines_of bytes)) s e (numbered-rises 1 (1 + length bytes) (lines_of bytes) (omega arith))

-- ---- in the words of the contract

module _ {A : Type 0} where
  pub lows : (low high : ℕ) (ls : List (ℕ × A)) → Rises low high ls → All (λ l. low ≤ l.0) ls
  lows low high [] r = All-nil (λ (l : ℕ × A). low ≤ l.0)
  lows low high (l ∷ ls) r = All-cons (λ (k : ℕ × A). low ≤ k.0) l ls r.0 (lows low high ls (wider (l.0 + 1) low high ls (omega arith) r.2))

  pub highs : (low high : ℕ) (ls : List (ℕ × A)) → Rises low high ls → All (λ l. l.0 < high) ls
  highs low high [] r = All-nil (λ (l : ℕ × A). l.0 < high)
  highs low high (l ∷ ls) r = All-cons (λ (k : ℕ × A). k.0 < high) l ls r.1 (highs (l.0 + 1) high ls r.2)

  pub pairs : (low high : ℕ) (ls : List (ℕ × A)) → Rises low high ls → AllPairs (λ l k. l.0 < k.0) ls
  pairs low high [] r = λ i j d lt less. absurd (omega arith)
  pairs low high (l ∷ ls) r =
      let behind : All (λ k. l.0 < k.0) ls = All-weaker (λ (k : ℕ × A). l.0 + 1 ≤ k.0) (λ (k : ℕ × A). l.0 < k.0) (λ k h. omega arith) ls (lows (l.0 + 1) high ls r.2) in
      AllPairs-cons (λ (x y : ℕ × A). x.0 < y.0) l ls behind (pairs (l.0 + 1) high ls r.2)
