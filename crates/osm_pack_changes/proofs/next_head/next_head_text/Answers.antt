use Rattle.std.proofs.Common.{◌∙◌, ◌++◌, ◌∷◌, [], ap, ℕ, List, map, refl}
use Rattle.std.proofs.lemmas.List.{map-append}
use Rattle.pack_head.specs.Heads.{file_parts, head_text}
use Rattle.pack_head.specs.declared.head.Head.{Head}
use Rattle.pack_head.specs.declared.head.HeadFile.{HeadFile}
use Rattle.osm_pack_changes.proofs.next_head.next_head_text.Goals as goal

pub returns : goal.returns
returns c =
    let last : HeadFile = record { len = c.args.added.now.header.size; name = c.args.name } in
    let next : Head = record {
      root = c.args.added.now.header.root;
      sequence = c.sequence_of.result;
      manifest_at = c.args.added.now.header.manifest.at;
      manifest_len = c.args.added.now.header.manifest.len;
      files = c.in_ok-files.files;
    } in (
      next,
      record {
        root = refl;
        sequence = c.sequence_of.ensures;
        manifest = refl;
        files = ap (λ (all : List HeadFile). map file_parts all) (c.in_ok-files.ensures ∙ ap (λ (all : List HeadFile). all ++ last ∷ []) c.deref.ensures.value) ∙ map-append file_parts c.args.head.now.files.items (last ∷ []);
      },
      c.in_ok-write_head.ensures.written ∙ ap (λ (l : List ℕ). l ++ head_text next) c.new-text.ensures.items,
    )
