use Rattle.std.proofs.Common.{◌≡◌, ◌+◌, ◌<◌, ◌≤◌, length, sym, ap, ◌∙◌, arith}
use Rattle.std.specs.Prelude.{slice_set}
use Rattle.std.proofs.lemmas.List.{length-set}
use Rattle.client_calls.specs.Abandoning.{table_left}
use Rattle.cluster_record.specs.Failing.{goes_with_node}
use Rattle.world_core.proofs.ByNumber.{left_from, left_from-start, left_from-next, left_from-end}
use Rattle.world_core.proofs.tables.cut_off.Goals as goal

pub loop-c-init : goal.loop-c-init
loop-c-init c = record { left = left_from-start _ 0 c.args.tables.now; all = c.requires }

pub returns : goal.returns
returns c =
    let i = c.loop-c.c in
    let tables = c.loop-c.tables in
    let all : length tables ≡ 100 = c.loop-c.invariant.all in
    let through : length tables ≤ i = omega (arith, all) in
    sym (left_from-end (table_left (goes_with_node c.args.cluster.now c.args.node)) 0 i tables through) ∙ c.loop-c.invariant.left

pub loop-c-preserved : goal.loop-c-preserved
loop-c-preserved c =
    let leave = table_left (goes_with_node c.args.cluster.now c.args.node) in
    let i = c.loop-c.c in
    let tables = c.loop-c.tables in
    let all : length tables ≡ 100 = c.loop-c.invariant.all in
    let within : i < length tables = omega (arith, c.loop-c-test.true, all) in
    record {
      left = ap (λ y. left_from leave 0 (i + 1) (slice_set tables i y)) c.cut_off.ensures ∙ left_from-next leave c.index-tables-c.result i tables within ∙ c.loop-c.invariant.left;
      all = length-set tables i _ ∙ all;
    }
