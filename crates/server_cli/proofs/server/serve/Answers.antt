use Rattle.std.proofs.Common.{◌∙◌, sym}
use Rattle.server_cli.proofs.server.serve.Goals as goal

pub returns : goal.returns
returns g c =
    c.run.ensures (record { listeners = c.args.listeners.items; folders = c.args.folders.items; clocks = c.args.clocks.items }) (record {
      folders = sym c.args.folders.ok.0 ∙ c.requires.folders ∙ c.args.listeners.ok.0;
      clocks = sym c.args.clocks.ok.0 ∙ c.requires.clocks ∙ c.args.listeners.ok.0;
      are = c.join_posts.ensures.items;
    })
