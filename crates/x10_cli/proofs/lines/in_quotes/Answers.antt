use Rattle.serde_json.proofs.FreeTexts.{text_of_str}
use Rattle.x10_cli.proofs.lines.in_quotes.Goals as goal

pub returns-in-Ok : goal.returns-in-Ok
returns-in-Ok c =
    let told = c.in-Ok.ensures.events in
    text_of_str c.args.text.now told.0 _ told.1 told.2
