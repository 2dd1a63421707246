use Rattle.std.proofs.Common.{◌≡◌, ◌++◌, ◌∙◌, [], Some, true, ap}
use Rattle.std.proofs.lemmas.Option.{same_Some}
use Rattle.commands.specs.CsimText.{csim_text, csim_task}
use Rattle.callers.proofs.runs.csim_in_memory.Goals as goal

pub returns : goal.returns
unfolding csim_task
returns c =
    let text : c.new-source.result.rest ≡ c.args.text.now =
    same_Some _ _ (ap (λ v. v.remaining) c.new-source.ensures.view) in
    let none : c.new-sink.result.bytes ≡ [] =
    same_Some _ _ (ap (λ v. v.written) c.new-sink.ensures.view) in
    ap Some (c.in_ok-csim.ensures.ok.completes.wrote
    ∙ ap (λ bytes. bytes ++ csim_text c.args.geometry true c.new-source.result.rest) none ∙
    ap (csim_text c.args.geometry true) text)
