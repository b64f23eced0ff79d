-- What a snapshot holds, where lines are nodes.
-- Source: this project.
use Rattle.light_index.specs.LightHoldings.{AreLightHeld}
use Rattle.light_index.specs.LightPublications.{LightPublication}
use Rattle.light_index.specs.declared.light_snapshot.LightSnapshot.{LightSnapshot}

-- the snapshot holds the publication: just its nodes, its manifest with its sequence, and its root; no two different
-- nodes of it have one digest
abbrev pub HoldsLightPublication : LightSnapshot → LightPublication → Type 0
HoldsLightPublication snapshot = AreLightHeld snapshot.stock snapshot.manifest snapshot.root
