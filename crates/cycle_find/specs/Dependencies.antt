-- Which dependencies the closed walks of a phenomenon use.
use Rattle.hist_types.specs.declared.types.Phenomenon.{Phenomenon}
use Rattle.hist_types.specs.declared.types.Phenomenon.TheVariants.{G0, G1c, GSingle, G2Item}
use Rattle.edge_graph.specs.declared.types.Dependencies.{Dependencies}
use Rattle.edge_graph.specs.declared.types.Dependencies.TheVariants.{None, Ww, Wr, Rw, WrAndWw, All}

-- the edge that it cannot do without
abbrev pub needed : Phenomenon → Dependencies
needed G0 = Ww
needed G1c = Wr
needed GSingle = Rw
needed G2Item = Rw

-- the way back from that edge's second end to its first
abbrev pub way_back : Phenomenon → Dependencies
way_back G0 = Ww
way_back G1c = WrAndWw
way_back GSingle = WrAndWw
way_back G2Item = All

-- the whole walk
abbrev pub whole : Phenomenon → Dependencies
whole G0 = Ww
whole G1c = WrAndWw
whole GSingle = All
whole G2Item = All

-- the ww and wr edges among those of the way back
abbrev pub direct_back : Phenomenon → Dependencies
direct_back G0 = Ww
direct_back G1c = WrAndWw
direct_back GSingle = WrAndWw
direct_back G2Item = WrAndWw

-- the edges of the whole walk except those of which it needs one
abbrev pub others : Phenomenon → Dependencies
others G0 = None
others G1c = Ww
others GSingle = WrAndWw
others G2Item = WrAndWw
