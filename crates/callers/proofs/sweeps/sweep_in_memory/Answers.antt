use Rattle.std.proofs.Common.{◌≡◌, ◌++◌, ◌∙◌, [], Some, ap, sym}
use Rattle.std.proofs.lemmas.Option.{same_Some}
use Rattle.trace_core.specs.Reading.{first_fault}
use Rattle.sweep_core.specs.SweepText.{sweep_text, sweep_task}
use Rattle.callers.proofs.sweeps.sweep_in_memory.Goals as goal

pub returns-clause-table : goal.returns-clause-table
unfolding sweep_task
returns-clause-table c =
    let text : c.new-source.result.rest ≡ c.args.text.now =
    same_Some _ _ (ap (λ v. v.remaining) c.new-source.ensures.view) in
    let none : c.new-sink.result.bytes ≡ [] =
    same_Some _ _ (ap (λ v. v.written) c.new-sink.ensures.view) in
    ap Some (c.in_ok-sweep.ensures.performs.ok.completes.wrote
    ∙ ap (λ bytes. bytes ++ sweep_text c.args.request.now c.new-source.result.rest) none ∙
    ap (sweep_text c.args.request.now) text)

pub returns-clause-faultless : goal.returns-clause-faultless
unfolding sweep_task
returns-clause-faultless c =
    let text : c.new-source.result.rest ≡ c.args.text.now =
    same_Some _ _ (ap (λ v. v.remaining) c.new-source.ensures.view) in
    ap (first_fault c.args.request.now.format c.args.request.now.max_lines) (sym text) ∙
    c.in_ok-sweep.ensures.performs.ok.completes.faultless
