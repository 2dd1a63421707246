use Rattle.std.proofs.Common.{◌≡◌, ◌++◌, ◌∙◌, [], Some, ap}
use Rattle.std.proofs.lemmas.Option.{same_Some}
use Rattle.commands.specs.Execute.{task_of}
use Rattle.callers.proofs.runs.job_in_memory.Goals as goal

pub returns : goal.returns
returns c =
    let text : c.new-source.result.rest ≡ c.args.text.now =
    same_Some _ _ (ap (λ v. v.remaining) c.new-source.ensures.view) in
    let none : c.new-sink.result.bytes ≡ [] =
    same_Some _ _ (ap (λ v. v.written) c.new-sink.ensures.view) in
    let whole = (task_of c.args.job.now).whole in
    ap Some (c.in_ok-execute.ensures.ok.completes.wrote
    ∙ ap (λ bytes. bytes ++ whole c.new-source.result.rest) none ∙ ap whole text)
