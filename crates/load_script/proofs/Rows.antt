-- Loads beside the scripts that they are, by computation: each is what is read of its text.
use Rattle.std.proofs.Common.{◌≡◌, refl, List, [], ◌∷◌, ◌++◌, map, Ok, Some, codes}
use Prim.Native.String.{String}
use Rattle.script_words.proofs.Computing.{script_words}
use Rattle.script_lines.specs.declared.lines.Line.{Line}
use Rattle.script_lines.specs.Table.{word_of_first, word_of_second, word_of_third, first_word_of, groups, said_by, line_said}
use Rattle.script_lang.specs.Grammar.{reading, marks_of, order_fault, limit_fault, fault_after, take_line, take_lines, script_of}
use Rattle.load_script.specs.Load.{generated, section_made, turn_written, turn_read}

-- what the reading of a script computes with
scripts : Unit {0}
unfolding script_words word_of_first word_of_second word_of_third first_word_of groups said_by line_said reading marks_of order_fault limit_fault fault_after take_line take_lines script_of
scripts = tt

-- each text says the line beside it
abbrev Say : List (String × Line) → Type 0
Say rows = map (λ r. reading (codes r.0)) rows ≡ map (λ r. Ok (Some r.1)) rows

lines_by_their_numbers : Say (
    ("write c0 h0 's00 0 x0000000000000000", turn_written 0)
    ∷ ("write c1 h0 's07 13 x0000000000000001", turn_written 1)
    ∷ ("write c1 h0 's03 65 x0000000000000005", turn_written 5)
    ∷ ("write c3 h0 's17 987 x00000000000003e7", turn_written 999)
    ∷ ("write c3 h0 's25 987 x0000000000000f9f", turn_written 3999)
    ∷ ("read c1 h0 's00 0 1024", turn_read 0)
    ∷ ("read c2 h0 's05 0 1024", turn_read 1)
    ∷ ("read c3 h0 's10 0 1024", turn_read 2)
    ∷ ("read c1 h0 's15 0 1024", turn_read 3)
    ∷ ("read c2 h0 's03 0 1024", turn_read 7)
    ∷ ("read c1 h0 's27 0 1024", turn_read 3999)
    ∷ ("create c0 h0 's09 end x", section_made 9)
    ∷ ("create c0 h0 's10 end x", section_made 10)
    ∷ ("create c0 h0 's31 end x", section_made 31)
    ∷ [])
unfolding scripts
lines_by_their_numbers = refl

a_load_of_one : script_of (
    codes "nodes 4\nclient c0 n0 B.2.2 none\nclient c1 n1 B.2.2 none\nclient c2 n2 B.2.2 none\n"
    ++ codes "client c3 n3 B.2.2 none\nopen c0 h0 'all 7 end 1 65536 end 64 1024 8\nopen c1 h0 'all 3 end\nopen c2 h0 'all 3 end\n"
    ++ codes "open c3 h0 'all 3 end\ncreate c0 h0 's00 end x\ncreate c0 h0 's01 end x\ncreate c0 h0 's02 end x\n"
    ++ codes "create c0 h0 's03 end x\ncreate c0 h0 's04 end x\ncreate c0 h0 's05 end x\ncreate c0 h0 's06 end x\n"
    ++ codes "create c0 h0 's07 end x\ncreate c0 h0 's08 end x\ncreate c0 h0 's09 end x\ncreate c0 h0 's10 end x\n"
    ++ codes "create c0 h0 's11 end x\ncreate c0 h0 's12 end x\ncreate c0 h0 's13 end x\ncreate c0 h0 's14 end x\n"
    ++ codes "create c0 h0 's15 end x\ncreate c0 h0 's16 end x\ncreate c0 h0 's17 end x\ncreate c0 h0 's18 end x\n"
    ++ codes "create c0 h0 's19 end x\ncreate c0 h0 's20 end x\ncreate c0 h0 's21 end x\ncreate c0 h0 's22 end x\n"
    ++ codes "create c0 h0 's23 end x\ncreate c0 h0 's24 end x\ncreate c0 h0 's25 end x\ncreate c0 h0 's26 end x\n"
    ++ codes "create c0 h0 's27 end x\ncreate c0 h0 's28 end x\ncreate c0 h0 's29 end x\ncreate c0 h0 's30 end x\n"
    ++ codes "create c0 h0 's31 end x\nwrite c0 h0 's00 0 x0000000000000000\nbegin write c0 h0 's00 0 'zz\nstep c0 6\n"
    ++ codes "fail n0\njoin n0\ncopy n0\nread c1 h0 's00 0 1024\n") ≡ Ok (generated 1)
unfolding scripts
a_load_of_one = refl

a_load_of_three : script_of (
    codes "nodes 4\nclient c0 n0 B.2.2 none\nclient c1 n1 B.2.2 none\nclient c2 n2 B.2.2 none\n"
    ++ codes "client c3 n3 B.2.2 none\nopen c0 h0 'all 7 end 1 65536 end 64 1024 8\nopen c1 h0 'all 3 end\nopen c2 h0 'all 3 end\n"
    ++ codes "open c3 h0 'all 3 end\ncreate c0 h0 's00 end x\ncreate c0 h0 's01 end x\ncreate c0 h0 's02 end x\n"
    ++ codes "create c0 h0 's03 end x\ncreate c0 h0 's04 end x\ncreate c0 h0 's05 end x\ncreate c0 h0 's06 end x\n"
    ++ codes "create c0 h0 's07 end x\ncreate c0 h0 's08 end x\ncreate c0 h0 's09 end x\ncreate c0 h0 's10 end x\n"
    ++ codes "create c0 h0 's11 end x\ncreate c0 h0 's12 end x\ncreate c0 h0 's13 end x\ncreate c0 h0 's14 end x\n"
    ++ codes "create c0 h0 's15 end x\ncreate c0 h0 's16 end x\ncreate c0 h0 's17 end x\ncreate c0 h0 's18 end x\n"
    ++ codes "create c0 h0 's19 end x\ncreate c0 h0 's20 end x\ncreate c0 h0 's21 end x\ncreate c0 h0 's22 end x\n"
    ++ codes "create c0 h0 's23 end x\ncreate c0 h0 's24 end x\ncreate c0 h0 's25 end x\ncreate c0 h0 's26 end x\n"
    ++ codes "create c0 h0 's27 end x\ncreate c0 h0 's28 end x\ncreate c0 h0 's29 end x\ncreate c0 h0 's30 end x\n"
    ++ codes "create c0 h0 's31 end x\nwrite c0 h0 's00 0 x0000000000000000\nwrite c1 h0 's07 13 x0000000000000001\nwrite c2 h0 's14 26 x0000000000000002\n"
    ++ codes "begin write c0 h0 's00 0 'zz\nstep c0 6\nfail n0\njoin n0\n"
    ++ codes "copy n0\nread c1 h0 's00 0 1024\nread c2 h0 's05 0 1024\nread c3 h0 's10 0 1024\n") ≡ Ok (generated 3)
unfolding scripts
a_load_of_three = refl
