-- Lines read one after the other.
use Rattle.std.proofs.Common.{◌≡◌, sym, ◌∙◌, ap, ℕ, List, [], ◌∷◌, length, Result, Ok, Err, arith}
use Rattle.script_lang.specs.declared.faults.ScriptFault.{ScriptFault}
use Rattle.script_lang.specs.declared.faults.ParseError.{ParseError}
use Rattle.script_lang.specs.declared.faults.ParseError.TheVariants as errors
use Rattle.script_lang.specs.Grammar.{Progress, take_line, take_lines, if_no_fault, text_lines}
use Rattle.script_lang.specs.Faults.{Misses}

pub lines_go_on : (p q : Progress) (bs l rest : List ℕ) (total : Result Progress ScriptFault) → text_lines bs ≡ l ∷ text_lines rest → take_line p l ≡ Ok q → take_lines p (text_lines bs) ≡ total → take_lines q (text_lines rest) ≡ total
unfolding take_lines
lines_go_on p q bs l rest total first one so_far =
    let now : take_lines p (l ∷ text_lines rest) ≡ total = rw first at so_far in
    let done : take_lines p (l ∷ text_lines rest) ≡ take_lines q (text_lines rest) = ap (λ r. if_no_fault r (λ s. take_lines s (text_lines rest))) one in
    sym done ∙ now

pub lines_end : (e : ParseError) (p : Progress) (bs l rest : List ℕ) (total : Result Progress ScriptFault) → text_lines bs ≡ l ∷ text_lines rest → Misses e (take_line p l) → take_lines p (text_lines bs) ≡ total → Misses e total
unfolding take_lines
lines_end errors.NoMemory p bs l rest total first one so_far = tt
lines_end (errors.Fault f) p bs l rest total first one so_far =
    let now : take_lines p (l ∷ text_lines rest) ≡ total = rw first at so_far in
    let done : take_lines p (l ∷ text_lines rest) ≡ Err f = ap (λ r. if_no_fault r (λ s. take_lines s (text_lines rest))) one in
    sym now ∙ done

pub lines_done : (p : Progress) (bs : List ℕ) (total : Result Progress ScriptFault) → length bs ≡ 0 → take_lines p (text_lines bs) ≡ total → total ≡ Ok p
unfolding take_lines
lines_done p [] total none so_far = sym so_far
lines_done p (b ∷ bs) total none so_far = absurd (omega (arith, none))
