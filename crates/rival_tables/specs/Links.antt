-- The links through the edges of each node, made by their nodes.
use Rattle.std.specs.Prelude.{ℕ, List}
use Rattle.arrays.specs.Linked.{Linked}
use Rattle.rival_tables.specs.declared.NodeLinks.{NodeLinks}

-- links through the edges, by the node at an end of each
abbrev pub LinksOf : ℕ → List ℕ → NodeLinks → Type 0
LinksOf m end links = Linked m end links.head links.next
