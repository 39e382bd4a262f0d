-- Scripts beside what is read of them, by computation: how many lines each says, its first fault, and its one spelling.
use Rattle.std.proofs.Common.{◌≡◌, refl, ℕ, List, [], ◌∷◌, ◌++◌, map, length, replicate, flat_map, Result, Ok, Err, codes}
use Prim.Native.String.{String}
use Rattle.script_words.specs.declared.reason.Reason.{Reason}
use Rattle.script_words.specs.declared.reason.Reason.TheVariants as reasons
use Rattle.script_words.proofs.Computing.{script_words}
use Rattle.script_lang.specs.declared.faults.ScriptFault.{ScriptFault}
use Rattle.script_lines.specs.declared.lines.Line.{Line}
use Rattle.script_lines.specs.Table.{word_of_first, word_of_second, word_of_third, first_word_of, groups, said_by, line_said}
use Rattle.script_lang.specs.Grammar.{reading, marks_of, order_fault, limit_fault, fault_after, take_line, take_lines, script_of}
use Rattle.script_lines.specs.Spelling.{line_text}
use Rattle.script_lang.specs.Spelling.{spelling}

-- what the reading and the spelling of a script compute with
scripts : Unit {0}
unfolding script_words word_of_first word_of_second word_of_third first_word_of groups said_by line_said reading marks_of order_fault limit_fault fault_after take_line take_lines script_of line_text spelling
scripts = tt

-- ---- how many lines are said, or the first fault

-- a row: a script, and how many lines it says or its first fault
abbrev Row : Type 0
Row = List ℕ × Result ℕ ScriptFault

abbrev says : ℕ → String → Row
says lines text = (codes text, Ok lines)

abbrev fails : ℕ → Reason → String → Row
fails line reason text = (codes text, Err (record { line = line; reason = reason }))

-- how many lines were read
abbrev counted : Result (List Line) ScriptFault → Result ℕ ScriptFault
counted (Ok lines) = Ok (length lines)
counted (Err fault) = Err fault

-- of each script behind these lines its row tells what is read
abbrev ReadBehind : List ℕ → List Row → Type 0
ReadBehind front rows = map (λ r. counted (script_of (front ++ r.0))) rows ≡ map (λ r. r.1) rows

-- the same of scripts as they stand
abbrev Read : List Row → Type 0
Read rows = ReadBehind [] rows

-- a node, a client and a checkpoint that it opens
abbrev opened : List ℕ
opened = codes "nodes 1\nclient c0 n0 B.2.2 none\nopen c0 h0 'ck 7 end 1 16 0 1 16 8\n"

each_first_line_is_read : Read (
    says 0 ""
    ∷ says 1 "nodes 1"
    ∷ says 1 "nodes 1\n"
    ∷ says 1 "\n# one node\n\nnodes 1\n#\n\n"
    ∷ says 1 "#nodes  1 \u{7f}\nnodes 1"
    ∷ says 1 "nodes 2"
    ∷ says 1 "nodes 8"
    ∷ says 3 "nodes 1\nclient c99 n7 Z.255.0 none\nclient c0 n0 A.0.255 none"
    ∷ says 5 "nodes 1\nclient c0 n0 B.2.2 both\nclient c1 n0 B.2.2 open\nclient c2 n0 B.2.2 sync\nbegin client c99 n7 Z.255.0 both"
    ∷ says 2 "nodes 1\nopen c0 h99 x 4294967295 -9223372036854775808"
    ∷ says 2 "nodes 1\nopen c0 h0 'a 0 0 4294967295 0 end 0 18446744073709551615 0"
    ∷ says 2 "nodes 1\nopen c0 h0 'a 7 end 9 16 -1 1 16 8"
    ∷ [])
unfolding scripts
each_first_line_is_read = refl

each_line_that_is_built_is_read : ReadBehind opened (
    says 4 "read c0 h0 x 0 0"
    ∷ says 4 "read c99 h99 'id 18446744073709551615 16777216"
    ∷ says 5 "write c0 h0 x 5 x4aBcDE\nwrite c0 h0 x 0 x\n"
    ∷ says 4 "write c0 h0 x 0 'a 'id 18446744073709551615 x 'id 5 xFF"
    ∷ says 4 "read c0 h0 x 0 16777215 'id 5 1 x 0 0"
    ∷ says 5 "read c0 h0 x 0 1 x 0 1 x 0 1\nread c0 h0 x 0 1 x 0 1 x 0 1 x 0 1"
    ∷ says 5 "write c0 h0 x 0 'aaaaaaaaaaaaaaaaaaaaaaaaaaaaaaaaaaaaaaaaaaaaaaaaaaaaaaaaaaaaaaaa\nover c0 h0 x 'aaaaaaaaaaaaaaaaaaaaaaaaaaaaaaaaaaaaaaaaaaaaaaaaaaaaaaaaaaaaaaaa"
    ∷ says 5 "read c0 h0 'aaaaaaaaaaaaaaaaaaaaaaaaaaaaaaaaaaaaaaaaaaaaaaaaaaaaaaaaaaaaaaaa 0 1 x 0 1 x 0 1\nread c0 h0 'aaaaaaaaaaaaaaaaaaaaaaaaaaaaaaaaaaaaaaaaaaaaaaaaaaaaaaaaaaaaaaaa 0 1 x 0 1 x 0 1 x 0 1"
    ∷ says 5 "open c0 h1 'ck 7 end 1 16 0 4294967295 16 8\nopen c0 h2 'ck 7 0 1 16 0 2 16 8"
    ∷ says 6 "create c0 h0 gen 5 'data\ncreate c99 h99 'id end x\ncreate c0 h0 x -1 x00"
    ∷ says 5 "delete c0 h0 'id\ndelete c99 h99 x"
    ∷ says 5 "expire c0 h0 'id end\nexpire c0 h0 x -5"
    ∷ says 5 "over c0 h0 'id 'bytes\nover c0 h0 x x"
    ∷ says 7 "at 0\nat 7\nat 7\nat 9223372036854775806"
    ∷ says 5 "status c0 h0\nstatus c99 h99"
    ∷ says 5 "close c0 h0\nclose c99 h99"
    ∷ says 5 "unlink c0 'ck\nunlink c99 x"
    ∷ says 6 "retain c0 h0 5\nretain c99 h99 end\nretain c0 h1 -9223372036854775808"
    ∷ says 5 "finalize c0\nfinalize c99"
    ∷ says 5 "iter c0 i99 h0 18446744073709551615 -5\niter c99 i0 h99 0 end"
    ∷ says 7 "next c0 i0\nnext c99 i99\nenditer c0 i0\nenditer c99 i99"
    ∷ says 5 "begin client c99 n7 Z.255.0 none\nbegin finalize c99"
    ∷ says 5 "begin open c0 h1 'ck 7 end\nbegin open c0 h1 'ck 7 end 1 16 0 1 16 8"
    ∷ says 7 "begin close c99 h99\nbegin unlink c0 x\nbegin retain c0 h0 -1\nbegin status c0 h0"
    ∷ says 8 "begin create c0 h0 gen 5 'data\nbegin delete c0 h0 'id\nbegin expire c0 h0 'id end\nbegin write c0 h0 x 0 'a 'id 5 xFF\nbegin over c0 h0 x x"
    ∷ says 5 "active c0 h0\nactive c99 h99"
    ∷ says 5 "begin active c0 h0\nbegin active c99 h99"
    ∷ says 5 "sync c0 h0 0\nsync c99 h99 end"
    ∷ says 6 "begin sync c0 h0 -9223372036854775808\nbegin sync c99 h99 9223372036854775807\nsync c0 h0 -1"
    ∷ says 5 "openasync c0 h0 0 'ck 7\nopenasync c99 h99 18446744073709551615 x 4294967295"
    ∷ says 5 "openasync c0 h0 1 'ck 7 1 16 0 1 16 8\nbegin openasync c0 h0 1 'ck 7 1 16 end 1 16 8"
    ∷ says 6 "syncasync c0 h0 0\nsyncasync c99 h99 18446744073709551615\nbegin syncasync c0 h0 0"
    ∷ says 7 "dispatch c0 0\ndispatch c99 4294967295\ndispatch c0 1\nbegin dispatch c0 2"
    ∷ says 7 "begin read c0 h0 x 0 1 'id 0 16777215\nbegin iter c0 i99 h0 1 end\nbegin next c0 i0\nbegin enditer c0 i0"
    ∷ says 7 "step c0 1\nstep c99 1000000\nstep n0 2\nstep n7 999999"
    ∷ says 6 "step c0.1 1\nstep c0.10 1000000\nstep c99.4294967295 1"
    ∷ says 8 "finish c0\nfinish c99\nfinish n0\nfinish n7\nfinish c99.4294967295"
    ∷ says 6 "copy n0\ncopy n7\ncopy n0"
    ∷ says 7 "begin copy n0\nstep n0 1\nfinish n0\nbegin copy n7"
    ∷ says 5 "show K1\nshow K9999"
    ∷ says 5 "pull K1\npull K9999"
    ∷ says 6 "put K1 n0\nput K9999 n7\nput K10 n1"
    ∷ says 5 "propagate K1\npropagate K9999"
    ∷ says 8 "begin close c0 h0\nat 5\nstep c0 1\nat 6\nfinish c0"
    ∷ [])
unfolding scripts
each_line_that_is_built_is_read = refl

the_first_fault_is_told : Read (
    fails 1 reasons.Number "nodes 9"
    ∷ fails 1 reasons.Number "nodes 0"
    ∷ fails 1 reasons.Number "nodes 01"
    ∷ fails 1 reasons.Number "nodes 10"
    ∷ fails 1 reasons.Count "nodes"
    ∷ fails 1 reasons.Count "nodes 1 1"
    ∷ fails 1 reasons.Word "nodes  1"
    ∷ fails 1 reasons.Word "nodes 1 "
    ∷ fails 1 reasons.Word " nodes 1"
    ∷ fails 1 reasons.Word " fail n0"
    ∷ fails 1 reasons.Number "nodes 1\r\n"
    ∷ fails 1 reasons.Nodes "fail n0"
    ∷ fails 1 reasons.Nodes "join n0"
    ∷ fails 2 reasons.Word "nodes 1\nfoo"
    ∷ fails 2 reasons.Word "nodes 1\nNodes 1"
    ∷ fails 2 reasons.Nodes "nodes 1\nnodes 1"
    ∷ fails 2 reasons.Nodes "nodes 1\nnodes 2"
    ∷ fails 2 reasons.Nodes "nodes 8\nnodes 1"
    ∷ fails 1 reasons.Nodes "client c0 n0 B.2.2 none"
    ∷ fails 1 reasons.Nodes "client c0 n0 B.2.2 open"
    ∷ fails 1 reasons.Nodes "begin close c0 h0"
    ∷ fails 1 reasons.Nodes "step c0 1"
    ∷ fails 1 reasons.Nodes "finish c0"
    ∷ fails 1 reasons.Nodes "show K1"
    ∷ fails 5 reasons.Count "# first\n\nnodes 1\n\nclient c0 n0 B.2"
    ∷ fails 2 reasons.Count "nodes 1\nclient c0 n0 B.2"
    ∷ fails 2 reasons.Word "nodes 1\nclient c100 n8 B.2.2 none"
    ∷ fails 2 reasons.Word "nodes 1\nclient c0 n0 B.2.2 all"
    ∷ fails 2 reasons.Word "nodes 1\nclient c0 n0 B.2.2 Both"
    ∷ fails 2 reasons.Count "nodes 1\nclient c0 n0 B.2.2 open sync"
    ∷ fails 3 reasons.Moment "nodes 1\nat 5\nat 4"
    ∷ fails 6 reasons.Moment "nodes 1\nat 0\nat 5\n\nat 5\nat 4"
    ∷ fails 1 reasons.Nodes "at 5\nnodes 1"
    ∷ fails 2 reasons.Number "nodes 1\nat -1"
    ∷ fails 2 reasons.Number "nodes 1\nat end"
    ∷ fails 2 reasons.Number "nodes 1\nat 9223372036854775807"
    ∷ fails 2 reasons.Count "nodes 1\nat 1 2"
    ∷ fails 2 reasons.NotBuilt "nodes 1\nrace"
    ∷ fails 2 reasons.NotBuilt "nodes 1\nrace  1 "
    ∷ fails 2 reasons.NotBuilt "nodes 1\nend"
    ∷ fails 2 reasons.Word "nodes 2\nfail n8"
    ∷ fails 2 reasons.Word "nodes 2\nfail c0"
    ∷ fails 2 reasons.Word "nodes 2\nfail  n1"
    ∷ fails 2 reasons.Word "nodes 2\nfails n1"
    ∷ fails 2 reasons.Count "nodes 2\nfail"
    ∷ fails 2 reasons.Count "nodes 2\nfail n1 n2"
    ∷ fails 2 reasons.Word "nodes 2\nbegin fail n1"
    ∷ fails 2 reasons.Word "nodes 2\nbegin fail"
    ∷ fails 2 reasons.Word "nodes 2\njoin n8"
    ∷ fails 2 reasons.Word "nodes 2\njoin c0"
    ∷ fails 2 reasons.Word "nodes 2\njoin  n1"
    ∷ fails 2 reasons.Word "nodes 2\njoins n1"
    ∷ fails 2 reasons.Count "nodes 2\njoin"
    ∷ fails 2 reasons.Count "nodes 2\njoin n1 n2"
    ∷ fails 2 reasons.Word "nodes 2\nbegin join n1"
    ∷ fails 2 reasons.Word "nodes 2\nbegin join"
    ∷ fails 2 reasons.Count "nodes 1\ncopy\n"
    ∷ fails 2 reasons.Count "nodes 1\ncopy n0 n1"
    ∷ fails 2 reasons.Word "nodes 1\ncopy n8"
    ∷ fails 2 reasons.Word "nodes 1\ncopy c0"
    ∷ fails 2 reasons.Word "nodes 1\ncopy  n0"
    ∷ fails 1 reasons.Nodes "copy n0"
    ∷ fails 2 reasons.Count "nodes 1\nbegin"
    ∷ fails 2 reasons.Word "nodes 1\nbegin "
    ∷ fails 2 reasons.Word "nodes 1\nbegin  copy n0"
    ∷ fails 2 reasons.Count "nodes 1\nbegin copy"
    ∷ fails 2 reasons.Word "nodes 1\nbegin copy  n0"
    ∷ fails 1 reasons.Nodes "begin copy n0"
    ∷ [])
unfolding scripts
the_first_fault_is_told = refl

-- creation flags of 1 put the updates of a checkpoint on all replicas
a_node_may_fail : Read (
    says 2 "nodes 2\nfail n1"
    ∷ says 2 "nodes 1\nfail n7"
    ∷ says 4 "nodes 8\nfail n0\n#\nfail n0\n\nfail n7"
    ∷ says 4 "nodes 2\nat 5\nfail n1\nat 6"
    ∷ says 4 "nodes 2\nclient c0 n0 B.2.2 none\nopen c0 h0 'ck 7 end 2 16 0 1 16 8\nfail n1"
    ∷ says 4 "nodes 2\nclient c0 n0 B.2.2 none\nopen c0 h0 'ck 7 end 4 16 0 1 16 8\nfail n1"
    ∷ says 4 "nodes 2\nclient c0 n0 B.2.2 none\nopen c0 h0 'ck 7 end 10 16 0 1 16 8\nfail n1"
    ∷ says 4 "nodes 2\nclient c0 n0 B.2.2 none\nopen c0 h0 'ck 7 end 12 16 0 1 16 8\nfail n1"
    ∷ says 4 "nodes 2\nclient c0 n0 B.2.2 none\nbegin open c0 h0 'ck 7 end 2 16 0 1 16 8\nfail n1"
    ∷ says 4 "nodes 2\nclient c0 n0 B.2.2 none\nopenasync c0 h0 5 'ck 7 2 16 0 1 16 8\nfail n1"
    ∷ says 4 "nodes 2\nclient c0 n0 B.2.2 none\nbegin openasync c0 h0 5 'ck 7 4 16 0 1 16 8\nfail n1"
    ∷ says 4 "nodes 2\nfail n1\nclient c0 n0 B.2.2 none\nopen c0 h0 'ck 7 end 2 16 0 1 16 8"
    ∷ says 4 "nodes 2\nfail n1\nclient c0 n0 B.2.2 none\nbegin openasync c0 h0 5 'ck 7 2 16 0 1 16 8"
    ∷ says 4 "nodes 2\nclient c0 n0 B.2.2 none\nopen c0 h0 'ck 1 end\nfail n1"
    ∷ says 4 "nodes 2\nclient c0 n0 B.2.2 none\nopenasync c0 h0 1 'ck 1\nfail n1"
    ∷ says 4 "nodes 2\nclient c0 n0 B.2.2 none\nopen c0 h0 'ck 7 end 9 16 0 1 16 8\nfail n1"
    ∷ says 3 "nodes 2\nclient c0 n0 B.2.2 none\nopen c0 h0 'ck 7 end 1 16 0 1 16 8"
    ∷ [])
unfolding scripts
a_node_may_fail = refl

-- beside a checkpoint whose updates are on all replicas too, before it is opened and behind
a_node_may_fail_beside_all_replicas : Read (
    says 4 "nodes 2\nclient c0 n0 B.2.2 none\nopen c0 h0 'ck 7 end 1 16 0 1 16 8\nfail n1"
    ∷ says 4 "nodes 2\nfail n1\nclient c0 n0 B.2.2 none\nopen c0 h0 'ck 7 end 1 16 0 1 16 8"
    ∷ says 4 "nodes 2\nclient c0 n0 B.2.2 none\nbegin open c0 h0 'ck 7 end 1 16 0 1 16 8\nfail n1"
    ∷ says 4 "nodes 2\nfail n1\nclient c0 n0 B.2.2 none\nbegin open c0 h0 'ck 7 end 1 16 0 1 16 8"
    ∷ says 4 "nodes 2\nclient c0 n0 B.2.2 none\nopenasync c0 h0 5 'ck 7 1 16 0 1 16 8\nfail n1"
    ∷ says 4 "nodes 2\nfail n1\nclient c0 n0 B.2.2 none\nopenasync c0 h0 5 'ck 7 1 16 0 1 16 8"
    ∷ says 4 "nodes 2\nclient c0 n0 B.2.2 none\nbegin openasync c0 h0 5 'ck 7 1 16 0 1 16 8\nfail n1"
    ∷ says 4 "nodes 2\nfail n1\nclient c0 n0 B.2.2 none\nbegin openasync c0 h0 5 'ck 7 1 16 0 1 16 8"
    ∷ says 5 "nodes 2\nclient c0 n0 B.2.2 none\nopen c0 h0 'ck 7 end 1 16 0 1 16 8\nfail n1\nfail n0"
    ∷ says 6 "nodes 2\n\n# a node\nfail n1\nat 1\nfail n0\nclient c0 n0 B.2.2 none\nopen c0 h0 'ck 7 end 1 16 0 1 16 8"
    ∷ says 6 "nodes 2\nclient c0 n0 B.2.2 none\nopen c0 h0 'ck 7 end 2 16 0 1 16 8\nopen c0 h0 'ck 7 end 1 16 0 1 16 8\nfail n1\nopen c0 h0 'ck 7 end 2 16 0 1 16 8"
    ∷ says 4 "nodes 2\nclient c0 n0 B.2.2 none\nopen c0 h0 'ck 7 end 1 16 0 1 16 8\nfail n7"
    ∷ fails 5 reasons.Word "nodes 2\nclient c0 n0 B.2.2 none\nopen c0 h0 'ck 7 end 1 16 0 1 16 8\nfail n1\nfoo"
    ∷ [])
unfolding scripts
a_node_may_fail_beside_all_replicas = refl

-- up or not, one of the first nodes or another
a_node_may_join : Read (
    says 2 "nodes 1\njoin n0"
    ∷ says 2 "nodes 1\njoin n7"
    ∷ says 3 "nodes 2\nfail n1\njoin n1"
    ∷ says 5 "nodes 8\njoin n0\n#\nfail n0\njoin n0\n\njoin n0"
    ∷ says 5 "nodes 2\nat 5\nfail n1\nat 6\njoin n1"
    ∷ says 5 "nodes 2\nclient c0 n0 B.2.2 none\nopen c0 h0 'ck 7 end 1 16 0 1 16 8\nfail n1\njoin n1"
    ∷ says 5 "nodes 2\nclient c0 n1 B.2.2 none\nfail n1\njoin n1\nbegin client c0 n1 B.2.2 none"
    ∷ says 4 "nodes 2\nfail n1\njoin n1\ncopy n1"
    ∷ fails 4 reasons.Word "nodes 2\nfail n1\njoin n1\nfoo"
    ∷ [])
unfolding scripts
a_node_may_join = refl

faults_of_opens : ReadBehind opened (
    fails 4 reasons.Count "open c0 h0 'ck 7 end 1 16 0 1 16"
    ∷ fails 4 reasons.Number "open c0 h0 'ck 7 end 1 16 0 4294967296 16 8"
    ∷ fails 4 reasons.Bytes "open c0 h0 ck x end 1 16 0 1 16 8"
    ∷ fails 4 reasons.Number "open c0 h0 'ck x ck 1 16 0 1 16 8"
    ∷ [])
unfolding scripts
faults_of_opens = refl

faults_of_writes : ReadBehind opened (
    fails 4 reasons.Count "write c0 h0 x 0"
    ∷ fails 4 reasons.Number "write c0 h0 x 00 'a"
    ∷ fails 4 reasons.Bytes "write c0 h0 x 0 xabc"
    ∷ fails 4 reasons.Bytes "write c0 h0 x 0 '"
    ∷ fails 4 reasons.Word "write c0 i0 x 0 'a"
    ∷ fails 4 reasons.Count "write c0 h0 x 0 'a x 1"
    ∷ fails 4 reasons.Number "write c0 h0 x 0 'a x -1 'b"
    ∷ [])
unfolding scripts
faults_of_writes = refl

faults_of_reads : ReadBehind opened (
    fails 4 reasons.Number "read c0 h0 x 18446744073709551616 1"
    ∷ fails 4 reasons.Reads "read c0 h0 x 0 16777217"
    ∷ fails 6 reasons.Reads "read c0 h0 x 0 16777216\nread c1 h0 x 0 0\nread c0 h0 x 0 1"
    ∷ fails 4 reasons.Reads "read c0 h0 x 0 16777216 x 0 1"
    ∷ [])
unfolding scripts
faults_of_reads = refl

faults_of_sections : ReadBehind opened (
    fails 4 reasons.Count "create c0 h0 gen 5"
    ∷ fails 4 reasons.Bytes "create c0 h0 Gen 5 x"
    ∷ fails 4 reasons.Number "create c0 h0 gen 05 x"
    ∷ fails 4 reasons.Word "create c0 i0 gen 5 x"
    ∷ fails 4 reasons.Bytes "delete c0 h0 gen"
    ∷ fails 4 reasons.Count "delete c0 h0"
    ∷ fails 4 reasons.Number "expire c0 h0 'a 9223372036854775808"
    ∷ [])
unfolding scripts
faults_of_sections = refl

faults_of_handles_and_names : ReadBehind opened (
    fails 4 reasons.Word "status c0 i0"
    ∷ fails 4 reasons.Count "status c0"
    ∷ fails 4 reasons.Word "close c0 i0"
    ∷ fails 4 reasons.Count "close c0"
    ∷ fails 4 reasons.Bytes "unlink c0 ck"
    ∷ fails 4 reasons.Count "unlink c0 h0 'ck"
    ∷ fails 4 reasons.Count "retain c0 h0"
    ∷ fails 4 reasons.Word "retain c0 h100 5"
    ∷ fails 4 reasons.Number "retain c0 h0 x5"
    ∷ fails 4 reasons.Word "finalize n0"
    ∷ fails 4 reasons.Count "finalize c0 h0"
    ∷ [])
unfolding scripts
faults_of_handles_and_names = refl

faults_of_synchronisations : ReadBehind opened (
    fails 4 reasons.Count "sync c0 h0"
    ∷ fails 4 reasons.Count "sync c0 h0 0 0"
    ∷ fails 4 reasons.Word "sync n0 h0 0"
    ∷ fails 4 reasons.Word "sync c0 i0 0"
    ∷ fails 4 reasons.Word "sync c100 h0 x"
    ∷ fails 4 reasons.Number "sync c0 h0 00"
    ∷ fails 4 reasons.Number "sync c0 h0 9223372036854775808"
    ∷ fails 4 reasons.Number "sync c0 h0 -9223372036854775809"
    ∷ fails 4 reasons.Word "synch c0 h0 0"
    ∷ fails 4 reasons.Word "syn c0 h0 0"
    ∷ [])
unfolding scripts
faults_of_synchronisations = refl

faults_of_actives : ReadBehind opened (
    fails 4 reasons.Count "active c0"
    ∷ fails 4 reasons.Count "active c0 h0 h0"
    ∷ fails 4 reasons.Word "active n0 h0"
    ∷ fails 4 reasons.Word "active c0 i0"
    ∷ fails 4 reasons.Word "active c0 h100"
    ∷ fails 4 reasons.Word "activ c0 h0"
    ∷ fails 4 reasons.Word "actives c0 h0"
    ∷ [])
unfolding scripts
faults_of_actives = refl

faults_of_asynchronous_calls : ReadBehind opened (
    fails 4 reasons.Count "openasync c0 h0 0 'ck"
    ∷ fails 4 reasons.Count "openasync c0 h0 0 'ck 7 end"
    ∷ fails 4 reasons.Count "openasync c0 h0 0 'ck 7 1 16 0 1 16"
    ∷ fails 4 reasons.Word "openasync n0 h0 0 'ck 7"
    ∷ fails 4 reasons.Word "openasync c0 i0 0 'ck 7"
    ∷ fails 4 reasons.Word "openasync c0 h100 0 'ck 7"
    ∷ fails 4 reasons.Number "openasync c0 h0 'ck 7 end"
    ∷ fails 4 reasons.Number "openasync c0 h0 18446744073709551616 'ck 7"
    ∷ fails 4 reasons.Bytes "openasync c0 h0 0 ck 7"
    ∷ fails 4 reasons.Number "openasync c0 h0 0 'ck 4294967296"
    ∷ fails 4 reasons.Number "openasync c0 h0 0 'ck 7 1 16 0 1 16 end"
    ∷ fails 4 reasons.Count "syncasync c0 h0"
    ∷ fails 4 reasons.Count "syncasync c0 h0 0 0"
    ∷ fails 4 reasons.Word "syncasync c100 h0 0"
    ∷ fails 4 reasons.Word "syncasync c0 i0 0"
    ∷ fails 4 reasons.Number "syncasync c0 h0 end"
    ∷ fails 4 reasons.Number "syncasync c0 h0 -1"
    ∷ fails 4 reasons.Number "syncasync c0 h0 18446744073709551616"
    ∷ fails 4 reasons.Word "syncasyn c0 h0 0"
    ∷ fails 4 reasons.Count "dispatch c0"
    ∷ fails 4 reasons.Count "dispatch c0 1 1"
    ∷ fails 4 reasons.Word "dispatch n0 1"
    ∷ fails 4 reasons.Number "dispatch c0 all"
    ∷ fails 4 reasons.Number "dispatch c0 -1"
    ∷ fails 4 reasons.Number "dispatch c0 4294967296"
    ∷ fails 4 reasons.Word "dispatches c0 1"
    ∷ [])
unfolding scripts
faults_of_asynchronous_calls = refl

faults_of_iterations : ReadBehind opened (
    fails 4 reasons.Word "iter c0 h0 i0 1 end"
    ∷ fails 4 reasons.Count "iter c0 i0 h0 1"
    ∷ fails 4 reasons.Number "iter c0 i0 h0 -1 end"
    ∷ fails 4 reasons.Number "iter c0 i0 h0 1 x"
    ∷ fails 4 reasons.Word "next c0 i100"
    ∷ fails 4 reasons.Count "enditer c0 i0 i0"
    ∷ [])
unfolding scripts
faults_of_iterations = refl

faults_of_overwrites : ReadBehind opened (
    fails 4 reasons.Bytes "over c0 h0 'a b"
    ∷ fails 4 reasons.Word "over c100 h0 'a 'b"
    ∷ fails 4 reasons.Word "oven c0 h0 'a 'b"
    ∷ fails 4 reasons.Word "overs c0 h0 'a 'b"
    ∷ fails 4 reasons.Count "over c0 h0 'a 'aaaaaaaaaaaaaaaaaaaaaaaaaaaaaaaaaaaaaaaaaaaaaaaaaaaaaaaaaaaaaaaa x"
    ∷ fails 4 reasons.Word "over c0 h0 'a 'aaaaaaaaaaaaaaaaaaaaaaaaaaaaaaaaaaaaaaaaaaaaaaaaaaaaaaaaaaaaaaaa "
    ∷ fails 4 reasons.Word "over c0 h0 'a  'aaaaaaaaaaaaaaaaaaaaaaaaaaaaaaaaaaaaaaaaaaaaaaaaaaaaaaaaaaaaaaaa"
    ∷ fails 4 reasons.Bytes "over c0 h0 'aaaaaaaaaaaaaaaaaaaaaaaaaaaaaaaaaaaaaaaaaaaaaaaaaaaaaaaaaaaaaaaa 'aaaaaaaaaaaaaaaaaaaaaaaaaaaaaaaaaaaaaaaaaaaaaaaaaaaaaaaaaaaaaaaa\u{7f}"
    ∷ [])
unfolding scripts
faults_of_overwrites = refl

faults_of_beginnings : ReadBehind opened (
    fails 4 reasons.Word "begin begin"
    ∷ fails 4 reasons.Word "begin begin close c0 h0"
    ∷ fails 4 reasons.Word "begin nodes 2"
    ∷ fails 4 reasons.Word "begin at 5"
    ∷ fails 4 reasons.Word "begin step c0 1"
    ∷ fails 4 reasons.Word "begin finish c0"
    ∷ fails 4 reasons.Word "begin show K1"
    ∷ fails 4 reasons.Word "begin pull K1"
    ∷ fails 4 reasons.Word "begin put K1 n0"
    ∷ fails 4 reasons.Word "begin propagate K1"
    ∷ fails 4 reasons.Word "begin foo"
    ∷ fails 4 reasons.Word "begin Close c0 h0"
    ∷ fails 4 reasons.Word "begin copy n8"
    ∷ fails 4 reasons.Word "begin copy c0"
    ∷ fails 4 reasons.NotBuilt "begin race"
    ∷ fails 4 reasons.Count "begin openasync"
    ∷ fails 4 reasons.Count "begin dispatch c0"
    ∷ fails 4 reasons.Word "begin syncasync n0 h0 0"
    ∷ fails 4 reasons.Count "begin close c0"
    ∷ fails 4 reasons.Word "begin close n0 h0"
    ∷ fails 4 reasons.Word "begin close c0  h0"
    ∷ fails 4 reasons.Count "begin active c0"
    ∷ fails 4 reasons.Word "begin active n0 h0"
    ∷ fails 4 reasons.Count "begin sync c0 h0"
    ∷ fails 4 reasons.Word "begin sync c0 i0 0"
    ∷ fails 4 reasons.Number "begin sync c0 h0 END"
    ∷ fails 4 reasons.Count "begin client c1 n0 B.2.2"
    ∷ fails 4 reasons.Word "begin client c1 n8 B.2.2 both"
    ∷ fails 4 reasons.Number "begin open c0 h0 'ck 7 x 2 16 0 1 16 8"
    ∷ fails 4 reasons.Bytes "begin write c0 h0 x 0 b"
    ∷ fails 4 reasons.Reads "begin read c0 h0 x 0 16777217"
    ∷ fails 6 reasons.Reads "begin read c0 h0 x 0 16777216\nread c0 h0 x 0 0\nbegin read c1 h0 x 0 1"
    ∷ [])
unfolding scripts
faults_of_beginnings = refl

faults_of_steps : ReadBehind opened (
    fails 4 reasons.Number "step c0 0"
    ∷ fails 4 reasons.Number "step c0 1000001"
    ∷ fails 4 reasons.Number "step c0 01"
    ∷ fails 4 reasons.Number "step c0 -1"
    ∷ fails 4 reasons.Number "step c0 c0"
    ∷ fails 4 reasons.Word "step h0 0"
    ∷ fails 4 reasons.Word "step c100 1"
    ∷ fails 4 reasons.Word "step n8 1"
    ∷ fails 4 reasons.Word "step K1 1"
    ∷ fails 4 reasons.Word "step c0.0 1"
    ∷ fails 4 reasons.Word "step c0.01 1"
    ∷ fails 4 reasons.Word "step c0. 1"
    ∷ fails 4 reasons.Word "step c0.4294967296 1"
    ∷ fails 4 reasons.Word "step c100.1 1"
    ∷ fails 4 reasons.Word "step n0.1 1"
    ∷ fails 4 reasons.Count "step"
    ∷ fails 4 reasons.Count "step c0"
    ∷ fails 4 reasons.Count "step c0 1 1"
    ∷ fails 4 reasons.Count "finish"
    ∷ fails 4 reasons.Count "finish c0 1"
    ∷ fails 4 reasons.Word "finish h0"
    ∷ fails 4 reasons.Word "finish c0.0"
    ∷ fails 4 reasons.Word "finish n8"
    ∷ [])
unfolding scripts
faults_of_steps = refl

faults_of_checkpoints : ReadBehind opened (
    fails 4 reasons.Count "show"
    ∷ fails 4 reasons.Count "show K1 K2"
    ∷ fails 4 reasons.Word "show K0"
    ∷ fails 4 reasons.Word "show K01"
    ∷ fails 4 reasons.Word "show K10000"
    ∷ fails 4 reasons.Word "show k1"
    ∷ fails 4 reasons.Word "show n0"
    ∷ fails 4 reasons.Count "pull"
    ∷ fails 4 reasons.Count "pull K1 n0"
    ∷ fails 4 reasons.Word "pull K0"
    ∷ fails 4 reasons.Word "pull K10000"
    ∷ fails 4 reasons.Word "pull c0"
    ∷ fails 4 reasons.Count "put K1"
    ∷ fails 4 reasons.Count "put K1 n0 n1"
    ∷ fails 4 reasons.Word "put K0 n0"
    ∷ fails 4 reasons.Word "put K1 n8"
    ∷ fails 4 reasons.Word "put K1 c0"
    ∷ fails 4 reasons.Word "put n0 K1"
    ∷ fails 4 reasons.Count "propagate"
    ∷ fails 4 reasons.Count "propagate K1 K2"
    ∷ fails 4 reasons.Word "propagate K01"
    ∷ fails 4 reasons.Word "propagate h0"
    ∷ [])
unfolding scripts
faults_of_checkpoints = refl

-- ---- what a line and a script have at most

-- a script behind a line of nodes that has a text so many times behind another
abbrev with_many : String → ℕ → String → List ℕ
with_many start count text = codes "nodes 1\n" ++ codes start ++ flat_map (λ t. t) (replicate count (codes text))

abbrev fault : ℕ → Reason → Result ℕ ScriptFault
fault line reason = Err (record { line = line; reason = reason })

a_write_and_a_read_have_256_elements_at_most : Read (
    (with_many "write c0 h0" 0 " 'id 0 x00", fault 2 reasons.Count)
    ∷ (with_many "write c0 h0" 256 " 'id 0 x00", Ok 2)
    ∷ (with_many "write c0 h0" 257 " 'id 0 x00", fault 2 reasons.Count)
    ∷ (with_many "read c0 h0" 0 " 'id 0 65536", fault 2 reasons.Count)
    ∷ (with_many "read c0 h0" 256 " 'id 0 65536", Ok 2)
    ∷ (with_many "read c0 h0" 257 " 'id 0 65536", fault 2 reasons.Count)
    ∷ [])
unfolding scripts
a_write_and_a_read_have_256_elements_at_most = refl

a_script_has_16_show_lines_at_most : Read (
    (with_many "" 16 "show K1\n", Ok 17)
    ∷ (with_many "" 17 "show K1\n", fault 18 reasons.Shows)
    ∷ (with_many "" 17 "show K1\nshow K0\n", fault 3 reasons.Word)
    ∷ [])
unfolding scripts
a_script_has_16_show_lines_at_most = refl

-- ---- the one spelling

-- the spelling of what was read
abbrev spelled : Result (List Line) ScriptFault → Result (List ℕ) ScriptFault
spelled (Ok lines) = Ok (spelling lines)
spelled (Err fault) = Err fault

-- each script behind these lines is spelled so, and this spelling as it is
abbrev SpellBehind : List ℕ → List (String × String) → Type 0
SpellBehind front rows = map {B = Result (List ℕ) ScriptFault × Result (List ℕ) ScriptFault} (λ r. (spelled (script_of (front ++ codes r.0)), spelled (script_of (codes r.1)))) rows ≡ map (λ r. (Ok (codes r.1), Ok (codes r.1))) rows

scripts_have_one_spelling : SpellBehind [] (
    ("", "")
    ∷ ("#\n\nnodes 1", "nodes 1\n")
    ∷ ("nodes 1\ncreate c0 h0 'a 5 x4A\ncreate c0 h1 gen 9223372036854775807 'b\nat 7\n#\nat 7\ndelete c1 h0 'a", "nodes 1\ncreate c0 h0 x61 5 x4a\ncreate c0 h1 gen end x62\nat 7\nat 7\ndelete c1 h0 x61\n")
    ∷ ("nodes 1\nexpire c0 h0 'a 9223372036854775807\nexpire c0 h0 x -9\nover c0 h0 'a x\nover c0 h0 x '~", "nodes 1\nexpire c0 h0 x61 end\nexpire c0 h0 x -9\nover c0 h0 x61 x\nover c0 h0 x x7e\n")
    ∷ ("nodes 1\nstatus c9 h8\n#\niter c0 i1 h2 3 9223372036854775807\nnext c0 i1\nenditer c0 i1", "nodes 1\nstatus c9 h8\niter c0 i1 h2 3 end\nnext c0 i1\nenditer c0 i1\n")
    ∷ ("nodes 1\nclose c9 h8\nunlink c0 'a\n\nretain c1 h2 9223372036854775807\nretain c1 h2 -1\nfinalize c0", "nodes 1\nclose c9 h8\nunlink c0 x61\nretain c1 h2 end\nretain c1 h2 -1\nfinalize c0\n")
    ∷ ("nodes 2\nactive c9 h8\n\nbegin active c99 h0\n#\nactive c0 h99", "nodes 2\nactive c9 h8\nbegin active c99 h0\nactive c0 h99\n")
    ∷ ("nodes 1\nsync c9 h8 9223372036854775807\n#\nbegin sync c9 h8 0\nsync c0 h99 -1", "nodes 1\nsync c9 h8 end\nbegin sync c9 h8 0\nsync c0 h99 -1\n")
    ∷ ("nodes 1\nopen c7 h1 x 1 9223372036854775807\nopen c7 h2 '~ 2 -5", "nodes 1\nopen c7 h1 x 1 end\nopen c7 h2 x7e 2 -5\n")
    ∷ ("nodes 8\nclient c9 n7 A.0.9 both\n#\nclient c2 n0 B.2.2 open\nbegin client c3 n1 B.2.2 sync", "nodes 8\nclient c9 n7 A.0.9 both\nclient c2 n0 B.2.2 open\nbegin client c3 n1 B.2.2 sync\n")
    ∷ ("nodes 1\nopenasync c7 h1 18446744073709551615 '~ 7\nbegin openasync c7 h2 0 x 2 1 16 9223372036854775807 1 16 8\nsyncasync c7 h1 5\n\ndispatch c7 4294967295", "nodes 1\nopenasync c7 h1 18446744073709551615 x7e 7\nbegin openasync c7 h2 0 x 2 1 16 end 1 16 8\nsyncasync c7 h1 5\ndispatch c7 4294967295\n")
    ∷ ("nodes 8\nbegin close c9 h8\nstep c9 1000000\n#\nfinish c9\nstep c9.70 2\nfinish n7\n\nshow K9999", "nodes 8\nbegin close c9 h8\nstep c9 1000000\nfinish c9\nstep c9.70 2\nfinish n7\nshow K9999\n")
    ∷ ("nodes 8\n#\npull K9\nput K9 n7\n\nput K9999 n0\npropagate K80", "nodes 8\npull K9\nput K9 n7\nput K9999 n0\npropagate K80\n")
    ∷ ("nodes 8\n#\nfail n7\n\nfail n0", "nodes 8\nfail n7\nfail n0\n")
    ∷ ("nodes 2\n#\njoin n7\n\nfail n0\njoin n0", "nodes 2\njoin n7\nfail n0\njoin n0\n")
    ∷ ("nodes 2\nbegin create c0 h0 'a 9223372036854775807 'b\nbegin write c0 h0 'a 0 'b x 1 xFF", "nodes 2\nbegin create c0 h0 x61 end x62\nbegin write c0 h0 x61 0 x62 x 1 xff\n")
    ∷ [])
unfolding scripts
scripts_have_one_spelling = refl

scripts_behind_an_open_have_one_spelling : SpellBehind opened (
    ("# bytes\nwrite c0 h0 'a 5 x4aBcDE\n\nread c0 h0 x61 0 9", "nodes 1\nclient c0 n0 B.2.2 none\nopen c0 h0 x636b 7 end 1 16 0 1 16 8\nwrite c0 h0 x61 5 x4abcde\nread c0 h0 x61 0 9\n")
    ∷ ("write c0 h0 'a 0 'b x 1 xFF\nread c0 h0 'a 0 1 x 2 3", "nodes 1\nclient c0 n0 B.2.2 none\nopen c0 h0 x636b 7 end 1 16 0 1 16 8\nwrite c0 h0 x61 0 x62 x 1 xff\nread c0 h0 x61 0 1 x 2 3\n")
    ∷ [])
unfolding scripts
scripts_behind_an_open_have_one_spelling = refl
