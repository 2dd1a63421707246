-- The arguments so far are respelled.
use Rattle.std.proofs.Common.{◌≡◌, ◌++◌, string_bytes, map, take}
use Rattle.options.specs.Respell.{spelling_of}
use Rattle.options.proofs.respell.push_arguments.Given as goal

abbrev pub invariant-loop-argument : goal.invariant-loop-argument
invariant-loop-argument l = map string_bytes l.list.items
    ≡ map string_bytes l.fn.list.items ++ map (spelling_of l.takes_dinero)
    (map string_bytes (take l.argument-index l.arguments))
