pub mod FrameLines
