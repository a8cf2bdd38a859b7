use Rattle.serde_json.proofs.FreeTexts.{text_of_value}
use Rattle.round_texts.specs.Graph.{graph_data}
use Rattle.round_texts.proofs.GraphLemmas.{graph_has_none}
use Rattle.round_texts.proofs.graph.json_of.Goals as goal

pub returns-in-Ok : goal.returns-in-Ok
returns-in-Ok c =
    let sent = c.in-Ok.ensures.events in
    text_of_value (graph_data c.args.round.now c.args.control.now) sent.0 c.in-Ok.text.items sent.1 sent.2 (graph_has_none c.args.round.now c.args.control.now)
