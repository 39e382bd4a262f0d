use Rattle.std.proofs.Common.{◌<◌, sym, arith}
use Rattle.section_store.specs.Keys.{key_of}
use Rattle.section_store.proofs.KeyLemmas.{key_of-less, key_of-greater}
use Rattle.section_store.proofs.keyed.compare.Goals as goal

pub returns-then-key-other : goal.returns-then-key-other
returns-then-key-other c =
    let id = c.args.id.now in
    let other = c.other.inside.id in
    let lower : key_of id < key_of other = omega (arith, c.requires.key, c.other.invariant.key, c.if-key-other.true) in
    rw (← c.other.view_is) (sym (key_of-less id other c.other.invariant.bytes lower))

pub returns-then-key-other-2 : goal.returns-then-key-other-2
returns-then-key-other-2 c =
    let id = c.args.id.now in
    let other = c.other.inside.id in
    let higher : key_of other < key_of id = omega (arith, c.requires.key, c.other.invariant.key, c.if-key-other-2.true) in
    rw (← c.other.view_is) (sym (key_of-greater id other c.requires.bytes higher))
